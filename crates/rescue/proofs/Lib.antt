-- The theorems of specs/RescueTheorems.antt, and the laws of the code.
pub mod PlainPositions
pub mod ListedColumns
pub mod ListParts
pub mod GroupEnds
pub mod GroupReads
pub mod RescuedGroups
pub mod GroupsWalk
pub mod RescueCalls
pub mod WholeStreams
pub mod RescueExamples
pub mod TruePositions
pub mod OwnBytes
pub mod DamagedStreams
pub mod DamagedRun
