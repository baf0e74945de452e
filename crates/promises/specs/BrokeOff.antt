-- Where a field is cut (FORMAT.md, "Places and cut bytes"): what this leaves alone,
-- and that its four numbers are together "the input ends".
-- Stated of the promise of the run reader, for every input of bytes, position, flag and places.
-- Assumes nothing.
use Rattle.std.specs.Prelude.{◌≡◌, ◌↔◌, ℕ, ◌+◌, ◌<◌, ◌≤◌, Bool, List, ◌++◌, length, drop, ℤ}
use Rattle.format.specs.Answers.{Answer, ran, refused_at, cut_at}
use Rattle.format.specs.Digits.{AllBelow}
use Rattle.format.specs.Fields.{Varint}
use Rattle.format.specs.Runs.{Description, row_count, layout}
use Rattle.format.specs.Rows.{i64_rows}
use Rattle.format.specs.Promises.{kind_of, width_of, RunRead}
use Rattle.promises.specs.OneRunExactly.{Begins, IsRun}
use Rattle.promises.specs.Refusals.{Headed, PatchedRun, DeltaRun, Unended, CutNumber, size, code, rows, value_bytes, magnitude_bytes}
use Rattle.promises.specs.Refusals.{list_to}

-- the four together: the input ends before the run does
pub data Ended (bs : List ℕ) : Type 0 where
  in-value : Headed 0 bs → length bs < 1 + size bs → Ended bs
  in-direct : Headed 1 bs → length bs < 2 + value_bytes bs → Ended bs
  in-first-row : DeltaRun bs → Unended 10 (drop 2 bs) → Ended bs
  in-base-delta : (first rest : List ℕ) → DeltaRun bs → drop 2 bs ≡ first ++ rest → Varint 10 first → Unended 10 rest → Ended bs
  in-magnitudes : (first base rest : List ℕ) → DeltaRun bs → drop 2 bs ≡ first ++ (base ++ rest) → Varint 10 first → Varint 10 base
      → length rest < magnitude_bytes (code bs) (rows bs) → Ended bs
  in-patched : PatchedRun bs → length bs < list_to bs → Ended bs

pub record BrokeOff (bs : List ℕ) (at : ℕ) (signed : Bool) (out out' : List ℤ) (r : Answer) : Type 0 where
  -- a run is read exactly where one begins and has room, as before, with its kind, rows and bytes ..
  pub accepted : IsRun r ↔ ((d : Description) × Begins bs d × (row_count d ≤ length out))
  pub same : (d : Description) → Begins bs d → row_count d ≤ length out
      → (r ≡ ran (kind_of d) (width_of d) (row_count d) (length (layout d))) × (out' ≡ i64_rows signed d ++ drop (row_count d) out)
  -- .. the refusals that name a byte are together: the input ends before the run does ..
  pub input-ends : ((n byte : ℕ) × (r ≡ cut_at n at byte)) ↔ Ended bs
  -- .. and a byte is named exactly with 6, 12, 13 and 14
  pub with_byte : (n byte : ℕ) → r ≡ cut_at n at byte → CutNumber n
  pub without : (n : ℕ) → r ≡ refused_at n at → CutNumber n → ⊥

abbrev pub BrokeOffHolds : Type 0
BrokeOffHolds =
    (input : List ℕ) → AllBelow 256 input → (at : ℕ) (signed : Bool) (out out' : List ℤ) (r : Answer) → RunRead input at signed out out' r
    → BrokeOff (drop at input) at signed out out' r
