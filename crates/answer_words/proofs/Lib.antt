-- The laws that the proofs cite, here and in `exports`, and that any two outcomes are equal.
pub mod Telling
pub mod PartWords
pub mod Outcomes
