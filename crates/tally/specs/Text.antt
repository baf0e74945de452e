-- A WHOLE NUMBER IN DECIMAL, of any size.
-- Assumes nothing.
use Rattle.std.specs.Prelude.{◌≡◌, ℕ, suc, ◌-◌, List, [], ◌∷◌, ◌++◌, map, length, drop, ℤ, pos, negsuc, nat_lt, slice_index, Option, None, Some}
use Prim.Native.Char.{code}
use Rattle.format.specs.Digits.{number}
use Rattle.format.specs.Fields.{pick}
use Rattle.tally.specs.declared.totals.Totals.{Totals}
use Rattle.tally.specs.Totals.{Line, totals}
use Rattle.tally.specs.Wide.{wide_value}
use Rattle.tally.specs.Held.{held}
use Rattle.tally.specs.Laws.{I64, Within}
use Rattle.text.specs.Ascii.{ascii}
use Rattle.text.specs.Decimal.{decimal_in, decimal, rows_text}

-- all digits of x: it has no more than x + 1
unfoldable pub number_text : ℕ → List ℕ
number_text x = decimal_in (suc x) x

-- one below 0 is a minus sign and its size
unfoldable pub whole_text : ℤ → List ℕ
whole_text (pos n) = number_text n
whole_text (negsuc n) = ascii "-" ++ number_text (suc n)

-- ---- THE LINES

-- a word and a count
unfoldable pub count_line : List ℕ → ℕ → List ℕ
count_line word count = (word ++ decimal count) ++ ascii "\n"

-- the smallest or the largest row, or none
unfoldable pub extreme_text : Option ℤ → List ℕ
extreme_text None = ascii " none"
extreme_text (Some z) = rows_text (z ∷ [])

unfoldable pub extreme_line : List ℕ → Option ℤ → List ℕ
extreme_line word e = (word ++ extreme_text e) ++ ascii "\n"

-- a refusal's number, and its count
unfoldable pub refusal_line : ℕ → ℕ → List ℕ
refusal_line number count = (((ascii "refused " ++ decimal number) ++ ascii " ") ++ decimal count) ++ ascii "\n"

-- by number, as the table of numbers goes
abbrev pub numbered : List ℕ → ℕ → List ℕ
numbered counts k = refusal_line k (slice_index counts k)

unfoldable pub refusals_text : List ℕ → List ℕ
refusals_text counts =
    let line : ℕ → List ℕ = numbered counts in
    ((((((((line 1 ++ line 2) ++ line 3) ++ line 4) ++ line 5) ++ line 6) ++ line 7) ++ line 12) ++ line 13) ++ line 14

-- by kind, and the rows
unfoldable pub runs_text : List ℕ → ℕ → List ℕ
runs_text runs rows =
    (((count_line (ascii "short ") (slice_index runs 0) ++ count_line (ascii "direct ") (slice_index runs 1))
    ++ count_line (ascii "patched ") (slice_index runs 2))
    ++ count_line (ascii "delta ") (slice_index runs 3)) ++ count_line (ascii "rows ") rows

unfoldable pub sum_line : ℤ → List ℕ
sum_line z = (ascii "sum " ++ whole_text z) ++ ascii "\n"

-- all lines
unfoldable pub totals_text : Totals → List ℕ
totals_text t =
    ((((((count_line (ascii "lines ") t.lines ++ count_line (ascii "bad ") t.bads) ++ count_line (ascii "end ") t.ends)
    ++ refusals_text t.refusals)
    ++ runs_text t.runs t.rows) ++ extreme_line (ascii "smallest") t.smallest) ++ extreme_line (ascii "largest") t.largest)
    ++ sum_line (wide_value t.sum)

-- none where there is less room than any totals need
unfoldable pub shown_in : ℕ → Totals → List ℕ
shown_in room t = pick (nat_lt room 1024) [] (totals_text t)

-- WHAT `show` PROMISES: the lines stand in the first bytes, r is their length, and the other bytes keep their content
pub record Shown (t : Totals) (out out' : List ℕ) (r : ℕ) : Type 0 where
  pub count : r ≡ length (shown_in (length out) t)
  pub places : out' ≡ shown_in (length out) t ++ drop (length (shown_in (length out) t)) out

-- any two outcomes that it allows are equal
abbrev pub ShowDetermined : Type 0
ShowDetermined = (t : Totals) (out out' out'' : List ℕ) (r r' : ℕ) → Shown t out out' r → Shown t out out'' r' → (r ≡ r') × (out' ≡ out'')

-- ---- THE SUM

-- the number that digits write
abbrev pub written : List ℕ → ℕ
written ds = number 10 (map (λ c. c - code "0") ds)

-- what is printed for the sum of lines within the limits is the whole-number sum, and its digits write its size
pub record SumText : Type 0 where
  pub sum-text : (ls : List Line) → I64 ls → Within ls → whole_text (wide_value (held (totals ls)).sum) ≡ whole_text (totals ls).sum
  pub digits-write : (x : ℕ) → written (number_text x) ≡ x
