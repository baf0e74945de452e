-- How long the lines are, and texts that stand in the first bytes. Assumes nothing.
use Rattle.std.proofs.Common.{ℕ, ◌+◌, ◌≤◌, List, [], ◌∷◌, ◌++◌, length, ℤ, arith, length-append, Option, None, Some}
use Rattle.text.specs.Ascii.{ascii}
use Rattle.text.specs.Decimal.{decimal, row_text, rows_text}
use Rattle.text.proofs.Texts.{decimal-length, row-length}
use Rattle.tally.specs.Text.{count_line, extreme_text, extreme_line, refusal_line}

pub count-length : (word : List ℕ) (n : ℕ) → length (count_line word n) ≤ length word + 21
unfolding count_line
count-length word n = omega (arith, decimal-length n, length-append (word ++ decimal n) (ascii "\n"), length-append word (decimal n))

pub refusal-length : (k n : ℕ) → length (refusal_line k n) ≤ 50
unfolding refusal_line
refusal-length k n =
    omega (
      arith,
      decimal-length k,
      decimal-length n,
      length-append (((ascii "refused " ++ decimal k) ++ ascii " ") ++ decimal n) (ascii "\n"),
      length-append ((ascii "refused " ++ decimal k) ++ ascii " ") (decimal n),
      length-append (ascii "refused " ++ decimal k) (ascii " "),
      length-append (ascii "refused ") (decimal k),
    )

pub row_line : (z : ℤ) → length (rows_text (z ∷ [])) ≤ 22
unfolding rows_text
row_line z = omega (arith, row-length z, length-append (ascii " ") (row_text z ++ []), length-append (row_text z) [])

pub extreme-length : (word : List ℕ) (e : Option ℤ) → length (extreme_line word e) ≤ length word + 23
unfolding extreme_line extreme_text
extreme-length word None = omega (arith, length-append (word ++ ascii " none") (ascii "\n"), length-append word (ascii " none"))
extreme-length word (Some z) = omega (arith, row_line z, length-append (word ++ rows_text (z ∷ [])) (ascii "\n"), length-append word (rows_text (z ∷ [])))

-- a text that stands in the first bytes
