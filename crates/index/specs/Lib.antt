-- The row index (FORMAT.md, "Index"): what each call comes to, what it promises, and the statements of what is proved of it.
pub mod Entries
pub mod Columns
pub mod Promises
pub mod Theorems
pub mod Walk
