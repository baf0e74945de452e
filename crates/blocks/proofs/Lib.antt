-- The laws that the programs cite, and that any two answers are equal.
pub mod Begun
pub mod Lines
pub mod Moves
pub mod Turns
pub mod Joined
pub mod Outcomes
pub mod Brought
