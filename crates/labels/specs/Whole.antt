-- For the functions of the code: an entry of a column as a natural number.
-- Assumes nothing.
use Rattle.std.specs.Prelude.{ℕ, List, [], ◌∷◌, drop, ℤ, pos, negsuc, Option, Some, None}

-- none if it is below 0 ..
abbrev pub whole_of : ℤ → Option ℕ
whole_of (pos n) = Some n
whole_of (negsuc n) = None

abbrev pub first_whole : List ℤ → Option ℕ
first_whole [] = None
first_whole (z ∷ zs) = whole_of z

-- .. or missing
abbrev pub whole_at : List ℤ → ℕ → Option ℕ
whole_at column i = first_whole (drop i column)
