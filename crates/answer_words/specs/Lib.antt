-- What each word of an answer and of a stream's means, the reader in parts as words, and that any two outcomes are equal.
pub mod Words
pub mod Parts
pub mod Outcomes
