-- ROWS THAT ARE MISSING (FORMAT.md, "Rows that are missing"): a column is flags, one a row, and the rows that are there and no others.
-- Flags are bytes; the rows of the call are i64, as whole numbers.
-- Assumes nothing.
use Rattle.std.specs.Prelude.{◌≡◌, ℕ, ◌+◌, Bool, not, List, [], ◌∷◌, ◌++◌, length, drop, get_or, ltb, eqb, ℤ, Result, Ok, Err}
use Rattle.format.specs.Fields.{pick}
use Rattle.format.specs.Answers.{refusing}
use Rattle.format.specs.declared.RowNumber.{RowNumber}
use Rattle.format.specs.declared.Refusal.{Refusal}

-- a flag other than 0 means that its row is there
abbrev pub is_there : ℕ → Bool
is_there flag = not (eqb flag 0)

-- how many rows a flag stands for: one or none
abbrev pub rows_for : ℕ → ℕ
rows_for flag = pick (is_there flag) 1 0

-- how many rows are there
unfoldable pub present : List ℕ → ℕ
present [] = 0
present (f ∷ fs) = rows_for f + present fs

-- the whole column, of any rows: for each flag the next of the rows, which is used up, or the fill
unfoldable pub spread : {A : Type 0} → A → List ℕ → List A → List A
spread fill [] rows = []
spread fill (f ∷ fs) rows = pick (is_there f) (get_or rows 0 fill) fill ∷ spread fill fs (drop (rows_for f) rows)

-- ---- THE CALL gives the column, or refuses with a number: 21 flags and rows that are not lined up, then 8 too few places

pub data SpreadOutcome : Type 0 where
  gives : List ℤ → SpreadOutcome
  refuses : ℕ → SpreadOutcome

-- there are exactly as many rows as flags that are not 0
abbrev pub lined_up : List ℕ → List ℤ → Bool
lined_up flags rows = eqb (present flags) (length rows)

unfoldable pub spreading : ℤ → List ℕ → List ℤ → ℕ → SpreadOutcome
spreading fill flags rows places =
    pick (not (lined_up flags rows)) (refuses 21)
    (pick (ltb places (length flags)) (refuses 8)
    (gives (spread fill flags rows)))

-- ---- THE ANSWER: how many rows the column has; or a refusal, by its number, at place 0

abbrev pub Spread : Type 0
Spread = Result RowNumber Refusal

abbrev pub spread_over : ℕ → Spread
spread_over rows = Ok (record { rows = rows })

abbrev pub not_spread : ℕ → Spread
not_spread number = Err (refusing number 0)

abbrev pub spread_answer : SpreadOutcome → Spread
spread_answer (gives column) = spread_over (length column)
spread_answer (refuses number) = not_spread number

-- ---- THE PLACES at exit: the column in the first ones, and what stood in the others; a refused call leaves them all as they were

abbrev pub spread_places : List ℤ → SpreadOutcome → List ℤ
spread_places out (gives column) = column ++ drop (length column) out
spread_places out (refuses number) = out

-- ---- THE PROMISE

pub record SpreadOut (flags : List ℕ) (rows : List ℤ) (fill : ℤ) (out out' : List ℤ) (r : Spread) : Type 0 where
  pub answer : r ≡ spread_answer (spreading fill flags rows (length out))
  pub places : out' ≡ spread_places out (spreading fill flags rows (length out))
