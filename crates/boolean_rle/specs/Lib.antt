-- The definitions that the contracts cite: batches from a position, and what the reader's own functions answer.
pub mod Column
pub mod Positions
pub mod Batches
pub mod BatchTheorems
pub mod Found
pub mod Ones
pub mod Walked
