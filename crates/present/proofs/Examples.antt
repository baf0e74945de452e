-- A line for each slip, by computation. Assumes nothing.
use mathlib.Core.Path.{◌≡◌, refl}
use Prim.Native.Nat.{ℕ}
use mathlib.Core.List.{List, [], ◌∷◌}
use lib.ListN.{length}
use lib.IntN.{ℤ, pos, negsuc}
use Rattle.present.specs.Present.{present, spread, spreading, spread_answer, spread_places, spread_over, not_spread, Spread}

abbrev flags : List ℕ
flags = 1 ∷ 0 ∷ 0 ∷ 2 ∷ []

-- with the fill -1
unfoldable outcome : List ℕ → List ℤ → List ℤ → Spread × List ℤ
unfolding present spread spreading
outcome flags rows out = let r = spreading (negsuc 0) flags rows (length out) in (spread_answer r, spread_places out r)

abbrev places : List ℤ
places = pos 90 ∷ pos 91 ∷ pos 92 ∷ pos 93 ∷ pos 94 ∷ []

-- flag 2 means a row that is there; the place after the flags keeps its content
two-of-four : outcome flags (pos 7 ∷ pos 8 ∷ []) places ≡ (spread_over 4, pos 7 ∷ negsuc 0 ∷ negsuc 0 ∷ pos 8 ∷ pos 94 ∷ [])
unfolding outcome
two-of-four = refl

-- one row more, one row less
one_more : outcome flags (pos 7 ∷ pos 8 ∷ pos 9 ∷ []) places ≡ (not_spread 21, places)
unfolding outcome
one_more = refl

one_less : outcome flags (pos 7 ∷ []) places ≡ (not_spread 21, places)
unfolding outcome
one_less = refl

-- 21 before 8; then 8
six : outcome (0 ∷ 0 ∷ flags) (pos 7 ∷ []) places ≡ (not_spread 21, places)
unfolding outcome
six = refl

six-lined : outcome (0 ∷ 0 ∷ flags) (pos 7 ∷ pos 8 ∷ []) places ≡ (not_spread 8, places)
unfolding outcome
six-lined = refl

-- no flags and no rows
none : outcome [] [] places ≡ (spread_over 0, places)
unfolding outcome
none = refl
