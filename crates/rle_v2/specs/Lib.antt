-- What the reader's inner functions are stated with. The promises themselves cite `format`.
pub mod Pass
pub mod RefusedBy
pub mod RunAt
pub mod DeltaStart
pub mod PatchedHead
pub mod PatchList
pub mod Part
