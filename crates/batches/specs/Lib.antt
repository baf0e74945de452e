-- Rows in batches (FORMAT.md, "Rows in batches"): what a call comes to, what it promises, what its steps do, and what is proved of it.
pub mod Batches
pub mod BatchPromise
pub mod BatchSteps
pub mod BatchTheorems
