-- A column with missing rows (FORMAT.md, "Rows that are missing").
pub mod Present
pub mod Laws
