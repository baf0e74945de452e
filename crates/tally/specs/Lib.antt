-- Totals (FORMAT.md, "Totals"): their meaning, the sum in two words, how the
-- code holds them, their text, the laws, and that any two outcomes are equal.
pub mod Totals
pub mod Wide
pub mod Held
pub mod Laws
pub mod Text
pub mod Outcomes
