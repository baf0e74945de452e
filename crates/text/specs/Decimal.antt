-- Numbers in decimal, and rows as i64 in decimal.
-- Assumes nothing.
use Rattle.std.specs.Prelude.{ℕ, zero, suc, ◌+◌, ◌/◌, ◌%◌, List, [], ◌∷◌, ◌++◌, ltb, ℤ, pos, negsuc}
use Prim.Native.Char.{code}
use Rattle.format.specs.Fields.{pick}
use Rattle.text.specs.Ascii.{ascii}

-- the digits of x, the highest first, at most k of them; 20 hold any number below 2^64
unfoldable pub decimal_in : ℕ → ℕ → List ℕ
decimal_in zero x = []
decimal_in (suc k) x = pick (ltb x 10) ((code "0" + x) ∷ []) (decimal_in k (x / 10) ++ ((code "0" + x % 10) ∷ []))

unfoldable pub decimal : ℕ → List ℕ
decimal x = decimal_in 20 x

-- a row: a negative one is a minus sign and its magnitude
unfoldable pub row_text : ℤ → List ℕ
row_text (pos n) = decimal n
row_text (negsuc n) = ascii "-" ++ decimal (suc n)

-- the rows, with a space before each
unfoldable pub rows_text : List ℤ → List ℕ
rows_text [] = []
rows_text (z ∷ zs) = ascii " " ++ row_text z ++ rows_text zs
