-- The laws that the proofs cite.
pub mod Blocks
pub mod Lines
pub mod Pieces
pub mod Turns
pub mod TextSaid
