-- Rows rescued by positions (FORMAT.md, "Rows rescued by positions"): what a call comes to, what it promises, what its steps do, and
-- what is proved of it.
pub mod Rescue
pub mod RescuePromise
pub mod RescueSteps
pub mod RescueTheorems
