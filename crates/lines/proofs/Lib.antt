-- The laws that the proofs cite, and that any two outcomes are equal.
pub mod Frames
pub mod Readings
pub mod Examples
pub mod Outcomes
