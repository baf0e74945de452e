-- The laws that the proofs of the byte writer cite, and the theorems.
pub mod Stretches
pub mod Cuts
pub mod Choosing
pub mod Walking
pub mod Fronts
pub mod Open
pub mod Ends
pub mod Least
pub mod Packing
pub mod Outcomes
pub mod Theorems
pub mod ReadBack
pub mod Examples
