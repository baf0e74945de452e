-- The theorems of specs/Laws.antt, and what the proofs of several functions cite.
pub mod Segments
pub mod Accepting
pub mod Direct
pub mod Writers
pub mod Steps
pub mod Growing
pub mod Walks
pub mod Checking
pub mod Planning
pub mod Widely
pub mod Columns
pub mod Reading
pub mod Examples
pub mod Proposing
pub mod Falling
