-- Salvage of a damaged stream (FORMAT.md, "Salvage").
pub mod Salvage
pub mod Laws
pub mod Steps
