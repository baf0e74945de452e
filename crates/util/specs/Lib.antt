-- The definitions that the contracts cite, beside those of `format`.
pub mod Width
pub mod Packed
pub mod Varint
pub mod Rows
