-- The laws that the proofs cite.
pub mod Answers
pub mod Onward
pub mod Turns
pub mod Whole
pub mod Room
