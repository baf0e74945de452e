-- The laws that the code's proofs cite.
pub mod Front
pub mod Seen
pub mod Lent
pub mod Joined
pub mod Restored
pub mod Room
