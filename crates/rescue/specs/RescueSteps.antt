-- For the functions of the code: plain positions in the code's words, and what one group and all groups leave. Assumes nothing.
use Rattle.std.specs.Prelude.{◌≡◌, ℕ, ◌≤◌, Bool, true, List, length, get_or, ℤ, Option, Some, None}
use Rattle.batches.specs.Batches.{Position}
use Rattle.batches.specs.declared.RowPosition.{RowPosition}
use Rattle.rescue.specs.Rescue.{PlainPosition, at, nowhere, made_plain, Group, group, kept, own_rows, group_rows}
use Rattle.rescue.specs.Rescue.{rescued_rows, verdicts, sum, RescueOutcome, rescued}

abbrev pub row_position : ℕ → ℕ → RowPosition
row_position run skip = record { run = record { bytes = run }; skip = record { rows = skip } }

abbrev pub plain_in : PlainPosition → Option RowPosition
plain_in (at p) = Some (row_position p.run p.skip)
plain_in nowhere = None

-- the position of a group by its number: after the last group it is the input's end
abbrev pub position_at : ℕ → List ℕ → List ℕ → ℕ → RowPosition
position_at end rs ss i = row_position (get_or rs i end) (get_or ss i 0)

-- A group is read between two positions made plain, whatever these are: whether it is kept, and then its rows.
pub record GroupRead (input : List ℕ) (from to : Option RowPosition) (signed : Bool) (out out' : List ℤ) (r : Bool) : Type 0 where
  pub long : length out' ≡ length out
  pub keeps : (p next : Position) → from ≡ plain_in (made_plain input p) → to ≡ plain_in (made_plain input next)
      → r ≡ kept input (group p (length out)) next
  pub rows : (p : Position) → from ≡ plain_in (made_plain input p) → r ≡ true → out' ≡ own_rows signed input (group p (length out))

-- .. and it is filled if it is not kept
pub record GroupRescued (input : List ℕ) (from to : Option RowPosition) (signed : Bool) (fill : ℤ) (out out' : List ℤ) (r : Bool) : Type 0 where
  pub keeps : (p next : Position) → from ≡ plain_in (made_plain input p) → to ≡ plain_in (made_plain input next)
      → r ≡ kept input (group p (length out)) next
  pub rows : (p next : Position) → from ≡ plain_in (made_plain input p) → to ≡ plain_in (made_plain input next)
      → out' ≡ group_rows signed fill input (group p (length out)) next

-- what the tests of a call have shown
pub record Fit (rs ss ns : List ℕ) (places marks : ℕ) : Type 0 where
  pub skips-long : length ss ≡ length rs
  pub counts-long : length ns ≡ length rs
  pub rows_fit : sum ns ≤ places
  pub marks-fit : length ns ≤ marks

-- what the groups come to
abbrev pub all_groups : Bool → ℤ → List ℕ → List Group → RescueOutcome
all_groups signed fill bs gs = rescued (rescued_rows signed fill bs gs) (verdicts bs gs)
