-- KEPT WIDTHS (FORMAT.md, "Kept widths"): those that are written. The others are odd: they are read, and no longer written.
-- Assumes nothing.
use Rattle.std.specs.Prelude.{◌≡◌, ℕ, ◌^◌, ◌<◌, ◌≤◌, Bool, true, false, ◌||◌, List, [], ◌∷◌, eqb}
use Rattle.format.specs.Fields.{width, least_of}

unfoldable pub kept_widths : List ℕ
kept_widths = 1 ∷ 2 ∷ 4 ∷ 8 ∷ 16 ∷ 24 ∷ 32 ∷ 40 ∷ 48 ∷ 56 ∷ 64 ∷ []

-- their codes
unfoldable pub kept_codes : List ℕ
kept_codes = 0 ∷ 1 ∷ 3 ∷ 7 ∷ 15 ∷ 23 ∷ 27 ∷ 28 ∷ 29 ∷ 30 ∷ 31 ∷ []

-- a number of the list
unfoldable pub among : ℕ → List ℕ → Bool
among n [] = false
among n (x ∷ xs) = eqb n x || among n xs

unfoldable pub is_kept : ℕ → Bool
is_kept code = among code kept_codes

-- of a width in bits
unfoldable pub is_kept_width : ℕ → Bool
is_kept_width w = among w kept_widths

-- the next kept code: the least that is not below this one
unfoldable pub next_kept : ℕ → ℕ
next_kept code = least_of kept_codes code

-- the narrowest kept code that holds a given unsigned number; 0 needs one bit
pub record NarrowestKept (x code : ℕ) : Type 0 where
  pub kept : is_kept code ≡ true
  pub holds : x < 2 ^ width code
  pub least : (c : ℕ) → is_kept c ≡ true → x < 2 ^ width c → code ≤ c
