-- Labels for the chunk list (FORMAT.md, "Labels" and "All labels in one pass").
pub mod Labels
pub mod Laws
pub mod Whole
pub mod Column
pub mod ColumnLaws
pub mod RowPass
