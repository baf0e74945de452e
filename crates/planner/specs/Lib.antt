-- The check in front of the writer of whole columns (FORMAT.md, "Column writer"):
-- its meaning, its theorems, and what its inner functions are stated with.
pub mod Check
pub mod Laws
pub mod Walk
pub mod Plan
