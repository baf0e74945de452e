-- Demand 2, the writer: its runs read back as the rows given, rows written again in the same form give the same bytes, and each of its
-- refusals is given exactly when its line of the table (FORMAT.md, "Refusals") holds.
-- Stated of the promises of the writer and of the run reader.
-- Assumes nothing.
use Rattle.std.specs.Prelude.{◌≡◌, ℕ, ◌<◌, ◌≤◌, Bool, true, false, ◌&&◌, List, ◌++◌, map, length, drop, ℤ}
use Rattle.format.specs.declared.Form.{Form}
use Rattle.format.specs.Answers.{Answer, ran, refused_at, answer_number}
use Rattle.format.specs.Runs.{Description, Valid, row_count, layout}
use Rattle.format.specs.Rows.{as_u64, i64_rows}
use Rattle.format.specs.Promises.{kind_of, width_of, RunRead}
use Rattle.format.specs.Writing.{count_allowed, have_form, width_allowed, fit_width, described, AllI64, Written, AsWritten}

-- (a) What the writer writes, the run reader reads as the rows given, under the same flag, and it consumes the bytes that were written: its
-- answer is the writer's, and its places hold the rows.
abbrev pub ReadsBack : Type 0
ReadsBack =
    (rows : List ℤ) (signed : Bool) (form : Form) (width : ℕ) (out out' : List ℕ) (r : Answer) → AllI64 rows
    → Written rows signed form width out out' r → answer_number r ≡ 0
    → (places places' : List ℤ) (r' : Answer) → length rows ≤ length places → RunRead out' 0 signed places places' r'
    → (r' ≡ r) × (places' ≡ rows ++ drop (length rows) places)

-- (b) Writing again the rows of a run that was read, in the same form, flag and width, gives the same bytes, if the run's width is kept,
-- its padding is zero, its varints are shortest (none drops a bit: its number is below 2^64), and a one-row fixed delta is 0 (`AsWritten`).
abbrev pub WritesAgain : Type 0
WritesAgain =
    (signed : Bool) (form : Form) (width : ℕ) (d : Description) → Valid d → AsWritten form width d
    → (out out' : List ℕ) (r : Answer) → length (layout d) ≤ length out → Written (i64_rows signed d) signed form width out out' r
    → (r ≡ ran (kind_of d) (width_of d) (row_count d) (length (layout d))) × (out' ≡ layout d ++ drop (length (layout d)) out)

-- The table's lines for the writer. Row count not allowed for the form; rows don't have the form, or a width isn't one of the form's; a row
-- or a magnitude needs more bits than the width; the output has too few places.
module _ (rows : List ℤ) (signed : Bool) (form : Form) (width : ℕ) (out : List ℕ) where
  abbrev pub Counted : Bool → Type 0
  Counted t = count_allowed form (length rows) ≡ t

  abbrev pub Formed : Bool → Type 0
  Formed t = (have_form form (map as_u64 rows) && width_allowed form width) ≡ t

  abbrev pub Fitting : Bool → Type 0
  Fitting t = fit_width signed form width (map as_u64 rows) ≡ t

  abbrev pub bytes : ℕ
  bytes = length (layout (described signed form width (map as_u64 rows)))

-- in the writing order 9, 10, 11, 8; and a run is written exactly when none of them holds
pub data Outcome (rows : List ℤ) (signed : Bool) (form : Form) (width : ℕ) (out : List ℕ) : Answer → Type 0 where
  refusal-9 : Counted rows signed form width out false → Outcome rows signed form width out (refused_at 9 0)
  refusal-10 : Counted rows signed form width out true → Formed rows signed form width out false
      → Outcome rows signed form width out (refused_at 10 0)
  refusal-11 : Counted rows signed form width out true → Formed rows signed form width out true → Fitting rows signed form width out false
      → Outcome rows signed form width out (refused_at 11 0)
  refusal-8 : Counted rows signed form width out true → Formed rows signed form width out true → Fitting rows signed form width out true
      → length out < bytes rows signed form width out → Outcome rows signed form width out (refused_at 8 0)
  written : Counted rows signed form width out true → Formed rows signed form width out true → Fitting rows signed form width out true
      → bytes rows signed form width out ≤ length out
      → Outcome rows signed form width out
      (ran (kind_of (described signed form width (map as_u64 rows))) (width_of (described signed form width (map as_u64 rows)))
      (row_count (described signed form width (map as_u64 rows))) (bytes rows signed form width out))

-- the four refusals and the acceptance exclude one another, so each is given exactly when its line holds
abbrev pub WriterTable : Type 0
WriterTable =
    (rows : List ℤ) (signed : Bool) (form : Form) (width : ℕ) (out out' : List ℕ) (r : Answer) → Written rows signed form width out out' r
    → Outcome rows signed form width out r
