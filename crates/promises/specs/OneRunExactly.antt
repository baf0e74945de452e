-- Demand 2: one run. The run reader answers with a run exactly when the bytes from the position on begin with the layout of a valid run
-- description for which there is room; kind, width, rows, counts and places are then those of the description, and it is the only one.
-- "End" is the answer exactly when there are no bytes. Stated of the promise of the run reader, for every input of bytes, position,
-- flag and places.
-- Assumes nothing.
use Rattle.std.specs.Prelude.{◌≡◌, ◌↔◌, ℕ, ◌≤◌, Bool, List, [], ◌++◌, length, drop, ℤ, None, Ok}
use Rattle.format.specs.declared.Kind.{Kind}
use Rattle.format.specs.Answers.{Answer, ran}
use Rattle.format.specs.Digits.{AllBelow}
use Rattle.format.specs.Runs.{Description, row_count, Valid, layout}
use Rattle.format.specs.Rows.{i64_rows}
use Rattle.format.specs.Promises.{kind_of, width_of, RunRead}

-- the bytes begin with the layout of a valid run description
pub record Begins (bs : List ℕ) (d : Description) : Type 0 where
  pub valid : Valid d
  pub rest : List ℕ
  pub bytes : bs ≡ layout d ++ rest

-- the answer is a run
abbrev pub IsRun : Answer → Type 0
IsRun r = (kind : Kind) × (width rows bytes : ℕ) × (r ≡ ran kind width rows bytes)

pub record OneRunExactly (bs : List ℕ) (signed : Bool) (out out' : List ℤ) (r : Answer) : Type 0 where
  pub ends : (r ≡ Ok None) ↔ (bs ≡ [])
  pub exactly : IsRun r ↔ ((d : Description) × Begins bs d × (row_count d ≤ length out))
  pub counts : (d : Description) → Begins bs d → row_count d ≤ length out → r ≡ ran (kind_of d) (width_of d) (row_count d) (length (layout d))
  pub rows : (d : Description) → Begins bs d → row_count d ≤ length out → out' ≡ i64_rows signed d ++ drop (row_count d) out
  pub only : (d d' : Description) → Begins bs d → Begins bs d' → d ≡ d'

abbrev pub OneRunExactlyHolds : Type 0
OneRunExactlyHolds =
    (input : List ℕ) → AllBelow 256 input → (at : ℕ) (signed : Bool) (out out' : List ℤ) (r : Answer) → RunRead input at signed out out' r
    → OneRunExactly (drop at input) signed out out' r
