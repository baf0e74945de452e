-- The theorems of specs/BatchTheorems.antt, and the laws of the code's steps.
pub mod RowPositions
pub mod BatchRuns
pub mod RunAtByte
pub mod NextPosition
pub mod BatchCalls
pub mod BatchSeries
pub mod IndexPositions
pub mod SeekWalk
pub mod PartOfRun
pub mod PartInPlaces
pub mod BatchReads
pub mod RunsWalk
pub mod WithinRun
pub mod BatchAnswers
pub mod BatchExamples
