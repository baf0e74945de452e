-- The theorems of specs/Laws.antt, and the laws that the functions cite.
pub mod Runs
pub mod Streams
pub mod Twice
pub mod Examples
pub mod ConvertTurns
pub mod Lays
pub mod Walks
pub mod Calls
