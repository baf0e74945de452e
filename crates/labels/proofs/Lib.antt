-- The theorems of specs/Laws.antt and specs/ColumnLaws.antt.

pub mod Labels
pub mod Columns
pub mod Examples
pub mod ColumnWalk
pub mod OffsetLoop
pub mod LabelLoop
pub mod ColumnOutcome
pub mod ColumnRows
pub mod ColumnRefusals
pub mod AllLabels
pub mod ColumnExamples
