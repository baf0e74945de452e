-- The definitions that the contracts cite. docs/FORMAT.md is the text that each of them is checked against.
pub mod Digits
pub mod Fields
pub mod Kept
pub mod Runs
pub mod Rows
pub mod Parse
pub mod Streams
pub mod Answers
pub mod Promises
pub mod Parts
pub mod Booleans
pub mod ByteValues
pub mod Writing
pub mod PatchedWriting
