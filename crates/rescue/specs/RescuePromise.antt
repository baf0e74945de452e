-- What the call promises: its answer and every lent place, for every input, flag, fill row, all columns and all places. Assumes nothing.
use Rattle.std.specs.Prelude.{◌≡◌, ℕ, Bool, List, ◌++◌, length, drop, ℤ, Result, Ok, Err}
use Rattle.format.specs.Answers.{refusing}
use Rattle.rescue.specs.Rescue.{RescueOutcome, refused, rescued, sum, rescuing}
use Rattle.format.specs.declared.Refusal.{Refusal}
use Rattle.rescue.specs.declared.Totals.{Totals}

-- what a call answers
abbrev pub Rescued : Type 0
Rescued = Result Totals Refusal

-- how many rows, and how many groups are kept
abbrev pub rescued_as : ℕ → ℕ → Rescued
rescued_as rows kept = Ok (record { rows = record { rows = rows }; kept = kept })

abbrev pub refused_with : ℕ → Rescued
refused_with number = Err (refusing number 0)

-- a verdict is 1 for a kept group, so their sum is how many are kept
abbrev pub rescue_answer : RescueOutcome → Rescued
rescue_answer (refused n) = refused_with n
rescue_answer (rescued rows marks) = rescued_as (length rows) (sum marks)

-- the lent places at exit: what is written in the first of them, and what stood in the others; a refused call changes none
abbrev pub rows_after : List ℤ → RescueOutcome → List ℤ
rows_after out (refused n) = out
rows_after out (rescued rows marks) = rows ++ drop (length rows) out

abbrev pub marks_after : List ℕ → RescueOutcome → List ℕ
marks_after out (refused n) = out
marks_after out (rescued rows marks) = marks ++ drop (length marks) out

-- an outcome is answered, and written
pub record Written (m : RescueOutcome) (rows rows' : List ℤ) (marks marks' : List ℕ) (r : Rescued) : Type 0 where
  pub answer : r ≡ rescue_answer m
  pub rows_are : rows' ≡ rows_after rows m
  pub marks-are : marks' ≡ marks_after marks m

abbrev pub RowsRescued : (input : List ℕ) (signed : Bool) (runs skips counts : List ℕ) (fill : ℤ) (rows rows' : List ℤ)
    (marks marks' : List ℕ) (r : Rescued) → Type 0
RowsRescued input signed runs skips counts fill rows rows' marks marks' r =
    Written (rescuing signed fill input runs skips counts (length rows) (length marks)) rows rows' marks marks' r
