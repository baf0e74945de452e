-- What the proofs of several functions cite.
pub mod Laws
pub mod Turns
pub mod Pieces
pub mod Sizes
pub mod Promised
pub mod PackedForms
pub mod FixedForm
pub mod ShortForm
pub mod PatchedLaws
pub mod PatchedFill
pub mod PatchedLay
pub mod PatchedHeader
