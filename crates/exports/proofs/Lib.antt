-- The laws that the proofs cite.
pub mod RowBytes
pub mod Repeat
pub mod Room
pub mod Reading
pub mod Telling
pub mod BatchTelling
pub mod RescueTelling
pub mod ByteTelling
pub mod FormNumbers
pub mod PartWords
pub mod Outcomes
