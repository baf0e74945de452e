-- The converter to kept widths (FORMAT.md, "Converter"): its meaning, its theorems, and what its inner functions are stated with.
pub mod Convert
pub mod Laws
pub mod Turn
pub mod Walk
