-- The theorems of specs/Theorems.antt, and the laws of the walks.

pub mod Entries
pub mod Held
pub mod Checked
pub mod Building
pub mod Own
pub mod MeasuredRun
pub mod Index
pub mod Columns
pub mod Totals
pub mod Walks
pub mod Fills
pub mod Lists
pub mod Laying
pub mod Builds
pub mod LookUps
pub mod Looked
pub mod Previews
pub mod Outcomes
