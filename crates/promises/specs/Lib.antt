-- The user's demands, as statements over the definitions that the contracts cite; the theorems stand in proofs/. docs/FORMAT.md is the text
-- that each of them is checked against.
-- FORMAT.md's sample runs and its table of refusals
pub mod Table
pub mod Samples
pub mod Refusals
-- its demands
pub mod OneRunExactly
pub mod WholeStreamExactly
pub mod BooleansAndValues
pub mod RoundTrips
-- the user's four questions
pub mod EachWidth
pub mod PatchLists
pub mod Sums
pub mod CutFile
-- what came with the changes after the base (docs/CHANGES.md)
pub mod BrokeOff
pub mod Longest
pub mod LongestWritten
pub mod Patched
pub mod Parts
pub mod PartsCalls
pub mod FlippedByte
-- any two outcomes are equal
pub mod Outcomes
