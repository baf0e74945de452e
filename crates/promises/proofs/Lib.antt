-- The theorems, one file for each file of statements in specs/.
-- FORMAT.md's sample runs and its table of refusals
pub mod Table
pub mod Fates
pub mod PatchedFate
pub mod PlainFates
pub mod DeltaFate
pub mod Fated
pub mod Lines
pub mod Refusals
-- its demands
pub mod OneRunExactly
pub mod WholeStreamExactly
pub mod BooleanFates
pub mod BooleanLines
pub mod BooleansAndValues
pub mod RoundTrips
-- the user's four questions
pub mod EachWidth
pub mod PatchNames
pub mod PatchCases
pub mod PatchLists
pub mod Sums
pub mod ShortOfRoom
pub mod CutFile
-- what came with the changes behind the base (docs/CHANGES.md)
pub mod BrokeOff
pub mod Longest
-- writing patched runs
pub mod PatchedPlaces
pub mod PatchedEntries
pub mod PatchedBase
pub mod PatchedValid
pub mod PatchedLeast
pub mod Patched
pub mod PatchedTable
pub mod PatchedExamples
pub mod LongestByForm
pub mod LongestWritten
pub mod Feeding
pub mod Parts
pub mod PartsRefused
pub mod PartsStanding
pub mod PartsFollow
pub mod PartsCalls
pub mod PartsDelivered
pub mod PartsSample
-- one flipped byte
pub mod FlippedFields
pub mod FlippedTouch
pub mod FlippedRows
pub mod FlippedByte
-- inputs that meet the hypotheses of a cut file and of one flipped byte
pub mod Instances
-- any two outcomes are equal
pub mod Outcomes
