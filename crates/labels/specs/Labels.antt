-- LABELS (FORMAT.md, "Labels"): a byte block, a column of lengths, a column of numbers, and flags that say which rows have a name.
-- Lengths and numbers are i64, as whole numbers; flags and the block are bytes.
-- Assumes nothing.
use Rattle.std.specs.Prelude.{◌≡◌, ℕ, ◌+◌, Bool, true, not, ◌&&◌, List, [], ◌∷◌, length, take, drop, get_or, leb, ltb, eqb, ℤ, pos, negsuc, Result, Ok, Err}
use Rattle.std.specs.Int.Signed.{non_neg}
use Rattle.format.specs.Fields.{pick}
use Rattle.format.specs.Answers.{refusing}
use Rattle.format.specs.declared.Refusal.{Refusal}
use Rattle.present.specs.Present.{present}
use Rattle.labels.specs.declared.Label.{Label}
use Rattle.labels.specs.declared.Label.TheVariants.{Name, Fallback}

-- ---- THE DICTIONARY

-- a length in bytes; one below 0 is refused before its bytes are asked for
abbrev pub size : ℤ → ℕ
size (pos n) = n
size (negsuc n) = 0

-- the whole-number sum of lengths
unfoldable pub total : List ℤ → ℕ
total [] = 0
total (z ∷ zs) = size z + total zs

-- none is below 0
unfoldable pub none_below : List ℤ → Bool
none_below [] = true
none_below (z ∷ zs) = non_neg z && none_below zs

-- no length is below 0, and they add up to this number of bytes ..
unfoldable pub add_up_to : List ℤ → ℕ → Bool
add_up_to lengths bytes = none_below lengths && eqb (total lengths) bytes

-- .. to the block
abbrev pub add_up : List ℤ → List ℕ → Bool
add_up lengths block = add_up_to lengths (length block)

-- name k begins where the lengths before it end, and has the k-th length; there is none beyond the lengths
unfoldable pub start_of : List ℤ → ℕ → ℕ
start_of lengths k = total (take k lengths)

unfoldable pub size_of : List ℤ → ℕ → ℕ
size_of lengths k = size (get_or lengths k (pos 0))

-- ---- THE ROW

-- a flag byte other than 0 means a name
abbrev pub is_name : ℕ → Bool
is_name flag = not (eqb flag 0)

-- the numbers are a column with missing rows: a row's entry is the one after those of the named rows before it
unfoldable pub entry_of : List ℕ → ℕ → ℕ
entry_of flags row = present (take row flags)

-- ---- THE ANSWER: a name, by where it begins in the block and its length; the fallback, by its length; or a refusal, by its number, at
-- place 0

abbrev pub name_at : ℕ → ℕ → Result Label Refusal
name_at start size = Ok (Name (record { start = record { bytes = start }; size = record { bytes = size } }))

abbrev pub fallback_of : ℕ → Result Label Refusal
fallback_of size = Ok (Fallback (record { bytes = size }))

abbrev pub refused_with : ℕ → Result Label Refusal
refused_with number = Err (refusing number 0)

-- 19: number outside the dictionary ..
unfoldable pub numbered : List ℤ → ℤ → Result Label Refusal
numbered lengths (pos k) = pick (ltb k (length lengths)) (name_at (start_of lengths k) (size_of lengths k)) (refused_with 19)
numbered lengths (negsuc k) = refused_with 19

-- .. or a missing entry
unfoldable pub named : List ℤ → List ℤ → ℕ → Result Label Refusal
named lengths numbers entry = pick (ltb entry (length numbers)) (numbered lengths (get_or numbers entry (pos 0))) (refused_with 19)

-- 16 no such row; 18 lengths below 0 or not adding up to the block, for every row, named or not; 19
unfoldable pub label : List ℤ → List ℤ → List ℕ → List ℕ → List ℕ → ℕ → Result Label Refusal
label lengths numbers flags block fall row =
    pick (leb (length flags) row) (refused_with 16)
    (pick (not (add_up lengths block)) (refused_with 18)
    (pick (is_name (get_or flags row 0)) (named lengths numbers (entry_of flags row)) (fallback_of (length fall))))

-- ---- THE PART: of the block, or the whole fallback; empty if the first call refuses
abbrev pub part_of : List ℕ → List ℕ → Result Label Refusal → List ℕ
part_of block fall (Ok (Name n)) = take n.size.bytes (drop n.start.bytes block)
part_of block fall (Ok (Fallback n)) = fall
part_of block fall (Err f) = []

-- ---- THE PROMISES of the two calls

pub record Labelled (lengths numbers : List ℤ) (flags block fall : List ℕ) (row : ℕ) (r : Result Label Refusal) : Type 0 where
  pub answer : r ≡ label lengths numbers flags block fall row

pub record PartHanded (lengths numbers : List ℤ) (flags block fall : List ℕ) (row : ℕ) (part : List ℕ) : Type 0 where
  pub part-is : part ≡ part_of block fall (label lengths numbers flags block fall row)
