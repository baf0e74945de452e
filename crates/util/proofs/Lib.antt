-- The laws that the readers and the writer cite.
pub mod BigEndian
pub mod Grow
pub mod Varints
pub mod VarintSize
pub mod Widths
pub mod Window
pub mod Packing
