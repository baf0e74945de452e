-- The theorems of specs/Laws.antt.

pub mod SpreadLoop
pub mod Columns
pub mod Batches
pub mod Calls
pub mod Examples
