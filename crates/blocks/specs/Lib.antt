-- The lines of an input, and of an input that comes in blocks; the reads that they come by; and that any two answers are equal.
pub mod Blocks
pub mod Reading
pub mod Outcomes
