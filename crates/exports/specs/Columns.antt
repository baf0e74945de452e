-- What `orc_plan`, `orc_check_column` and `orc_write_column` promise: the number that comes back, and every lent byte and word at exit. Of what `orc_plan`
-- proposes it promises that it is sound: it has no one right value. Assumes nothing.
use Rattle.std.specs.Prelude.{◌≡◌, ℕ, List, [], ◌∷◌, length, ℤ, Option, Some, None, Result, Ok, Err}
use Rattle.format.specs.declared.Refusal.{Refusal}
use Rattle.planner.specs.declared.Columned.{Columned}
use Rattle.planner.specs.declared.ColumnRuns.{ColumnRuns}
use Rattle.planner.specs.declared.ColumnRuns.TheVariants.{Planned, Direct}
use Rattle.planner.specs.Check.{Columns, checked_as, column, told_as, column_bytes}
use Rattle.planner.specs.Plan.{Proposes}
use Rattle.exports.specs.RowBytes.{is_signed}
use Rattle.answer_words.specs.Words.{Told, ToldOf}
use Rattle.exports.specs.Numbers.{number_in}

-- A PROPOSAL: how many segments, and the columns at exit
abbrev pub PlanTold : List ℤ → ℕ → Columns → ℕ → Type 0
PlanTold rows flag c r = Proposes (is_signed flag) rows c r

-- ---- THE CHECK'S WORDS

-- word 0 is 1 where the proposal is accepted, else 0; words 1, 2 and 3 are its runs, their rows and their bytes, 0 where it is not accepted
unfoldable pub check_words : Option Columned → List ℕ
check_words (Some c) = 1 ∷ c.runs ∷ c.rows.rows ∷ c.bytes.bytes ∷ []
check_words None = 0 ∷ 0 ∷ 0 ∷ 0 ∷ []

-- nothing is refused
abbrev pub check_number : Option Columned → ℕ
check_number c = 0

-- how many words it has
abbrev pub check_word_count : ℕ
check_word_count = 4

-- A PROPOSAL CHECKED: nothing but the words is lent
abbrev pub CheckTold : List ℤ → ℕ → Columns → ℕ → List ℕ → List ℕ → ℕ → Type 0
CheckTold rows flag c room words words' r = Told check_words check_number (checked_as (is_signed flag) rows c room) words words' r

-- ---- THE WRITER'S WORDS

-- word 0 is the case: 1 written as proposed, 2 refused, 3 written as direct runs of 64 bits; words 1 and 2 are the refusal's number and place, 0 unless
-- refused; words 3, 4 and 5 are the runs that were written, their rows and their bytes, 0 where refused
unfoldable pub column_words : Result ColumnRuns Refusal → List ℕ
column_words (Ok (Planned c)) = 1 ∷ 0 ∷ 0 ∷ c.runs ∷ c.rows.rows ∷ c.bytes.bytes ∷ []
column_words (Ok (Direct c)) = 3 ∷ 0 ∷ 0 ∷ c.runs ∷ c.rows.rows ∷ c.bytes.bytes ∷ []
column_words (Err f) = 2 ∷ f.number ∷ f.place.bytes ∷ 0 ∷ 0 ∷ 0 ∷ []

-- how many words it has
abbrev pub column_word_count : ℕ
column_word_count = 6

-- A COLUMN WRITTEN
abbrev pub ColumnTold : List ℤ → ℕ → Columns → List ℕ → List ℕ → List ℕ → List ℕ → ℕ → Type 0
ColumnTold rows flag c out out' words words' r =
    let m = column (is_signed flag) rows c (length out) in
    ToldOf column_words (number_in column_words) (told_as m) words words' r (column_bytes out m) out out'

-- ---- any two outcomes that the promises allow are equal

abbrev pub CheckToldDetermined : Type 0
CheckToldDetermined =
    (rows : List ℤ) (flag : ℕ) (c : Columns) (room : ℕ) (words words' words'' : List ℕ) (r r' : ℕ)
    → CheckTold rows flag c room words words' r → CheckTold rows flag c room words words'' r' → (words' ≡ words'') × (r ≡ r')

abbrev pub ColumnToldDetermined : Type 0
ColumnToldDetermined =
    (rows : List ℤ) (flag : ℕ) (c : Columns) (out out' out'' words words' words'' : List ℕ) (r r' : ℕ)
    → ColumnTold rows flag c out out' words words' r → ColumnTold rows flag c out out'' words words'' r'
    → (out' ≡ out'') × (words' ≡ words'') × (r ≡ r')
