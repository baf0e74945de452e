-- A row for each slip, by computation. The block has five bytes, the names two and three of them; rows 0 and 2 have a name. Assumes
-- nothing.
use mathlib.Core.Path.{◌≡◌, refl}
use Prim.Native.Nat.{ℕ}
use mathlib.Core.List.{List, [], ◌∷◌}
use lib.IntN.{ℤ, pos, negsuc}
use Rattle.std.specs.Prelude.{Result}
use Rattle.format.specs.declared.Refusal.{Refusal}
use Rattle.labels.specs.declared.Label.{Label}
use Rattle.present.specs.Present.{present}
use Rattle.labels.specs.Labels.{total, none_below, add_up_to, start_of, size_of, entry_of, name_at, fallback_of, refused_with, numbered}
use Rattle.labels.specs.Labels.{named, label, part_of}

abbrev block : List ℕ
block = 65 ∷ 66 ∷ 67 ∷ 68 ∷ 69 ∷ []

abbrev flags : List ℕ
flags = 1 ∷ 0 ∷ 2 ∷ []

unfoldable outcome : List ℤ → List ℤ → ℕ → Result Label Refusal × List ℕ
unfolding total none_below add_up_to start_of size_of present entry_of numbered named label
outcome lengths numbers row = let r = label lengths numbers flags block (63 ∷ []) row in (r, part_of block (63 ∷ []) r)

abbrev lengths : List ℤ
lengths = pos 2 ∷ pos 3 ∷ []

abbrev numbers : List ℤ
numbers = pos 1 ∷ pos 0 ∷ []

-- the second name
first-row : outcome lengths numbers 0 ≡ (name_at 2 3, 67 ∷ 68 ∷ 69 ∷ [])
unfolding outcome
first-row = refl

no_name : outcome lengths numbers 1 ≡ (fallback_of 1, 63 ∷ [])
unfolding outcome
no_name = refl

-- the entry after that of the one named row before it, not of the two rows before it; and flag 2 means a name
third-row : outcome lengths numbers 2 ≡ (name_at 0 2, 65 ∷ 66 ∷ [])
unfolding outcome
third-row = refl

no_row : outcome lengths numbers 3 ≡ (refused_with 16, [])
unfolding outcome
no_row = refl

-- 2^64 more bytes than the block has: a wrapped sum would do; also where the row has no name
wrapped : outcome (pos 9223372036854775807 ∷ pos 9223372036854775807 ∷ pos 7 ∷ []) numbers 1 ≡ (refused_with 18, [])
unfolding outcome
wrapped = refl

below : outcome (pos 6 ∷ negsuc 0 ∷ []) numbers 0 ≡ (refused_with 18, [])
unfolding outcome
below = refl

-- 18 before 19
eighteen-first : outcome (pos 2 ∷ []) (negsuc 0 ∷ []) 0 ≡ (refused_with 18, [])
unfolding outcome
eighteen-first = refl

-- a missing entry, a number below 0, a number past the last; 19 looks at the asked row's entry alone
missing : outcome lengths (pos 1 ∷ []) 2 ≡ (refused_with 19, [])
unfolding outcome
missing = refl

negative : outcome lengths (negsuc 0 ∷ pos 0 ∷ []) 0 ≡ (refused_with 19, [])
unfolding outcome
negative = refl

past : outcome lengths (pos 2 ∷ pos 0 ∷ []) 0 ≡ (refused_with 19, [])
unfolding outcome
past = refl

other-entry : outcome lengths (pos 2 ∷ pos 0 ∷ []) 2 ≡ (name_at 0 2, 65 ∷ 66 ∷ [])
unfolding outcome
other-entry = refl
