-- What the labels' definition says: each answer exactly when, and the parts. Stated for all columns, blocks, fallbacks and rows.
-- Assumes nothing.
use Rattle.std.specs.Prelude.{◌≡◌, ◌↔◌, ℕ, zero, suc, ◌+◌, ◌<◌, ◌≤◌, List, [], ◌∷◌, ◌++◌, length, take, drop, get_or, T, ℤ, pos, ◌+ℤ◌, ◌≤ℤ◌, Result}
use Rattle.format.specs.declared.Refusal.{Refusal}
use Rattle.labels.specs.declared.Label.{Label}
use Rattle.labels.specs.Labels.{is_name, start_of, size_of, entry_of, name_at, fallback_of, refused_with, label, part_of, Labelled}
use Rattle.labels.specs.Labels.{PartHanded}

-- ---- the lengths, as whole numbers

abbrev pub sum : List ℤ → ℤ
sum [] = pos 0
sum (z ∷ zs) = z +ℤ sum zs

abbrev pub NoneBelow : List ℤ → Type 0
NoneBelow [] = Unit {0}
NoneBelow (z ∷ zs) = (pos 0 ≤ℤ z) × NoneBelow zs

-- none is below 0, and their whole-number sum is the number of the block's bytes
pub record AddUp (lengths : List ℤ) (block : List ℕ) : Type 0 where
  pub none_below : NoneBelow lengths
  pub whole : sum lengths ≡ pos (length block)

-- ---- EACH ANSWER, EXACTLY WHEN

module _ (lengths numbers : List ℤ) (flags block fall : List ℕ) (row : ℕ) where
  -- the row has a name
  abbrev pub Name : Type 0
  Name = T (is_name (get_or flags row 0))

  -- the row's entry is there, and it is the number k of a name
  pub record Number (k : ℕ) : Type 0 where
    pub there : entry_of flags row < length numbers
    pub entry : get_or numbers (entry_of flags row) (pos 0) ≡ pos k
    pub inside : k < length lengths

  -- in the order 16, 18, 19
  pub data Said : Result Label Refusal → Type 0 where
    sixteen : length flags ≤ row → Said (refused_with 16)
    eighteen : row < length flags → (AddUp lengths block → ⊥) → Said (refused_with 18)
    nineteen : row < length flags → AddUp lengths block → Name → ((k : ℕ) → Number k → ⊥) → Said (refused_with 19)
    the-name : row < length flags → AddUp lengths block → Name → (k : ℕ) → Number k → Said (name_at (start_of lengths k) (size_of lengths k))
    no_name : row < length flags → AddUp lengths block → (Name → ⊥) → Said (fallback_of (length fall))

abbrev pub LabelsExactly : Type 0
LabelsExactly =
    (lengths numbers : List ℤ) (flags block fall : List ℕ) (row : ℕ) (r : Result Label Refusal)
    → (label lengths numbers flags block fall row ≡ r) ↔ Said lengths numbers flags block fall row r

-- ---- THE PARTS

-- the part of the block that number k selects
abbrev pub part_at : List ℤ → List ℕ → ℕ → List ℕ
part_at lengths block k = take (size_of lengths k) (drop (start_of lengths k) block)

-- the parts of the first k numbers, joined
abbrev pub parts_before : List ℤ → List ℕ → ℕ → List ℕ
parts_before lengths block zero = []
parts_before lengths block (suc k) = parts_before lengths block k ++ part_at lengths block k

pub record Parts (lengths : List ℤ) (block : List ℕ) : Type 0 where
  -- where a name begins is the whole-number sum of the lengths before it
  pub starts : (k : ℕ) → pos (start_of lengths k) ≡ sum (take k lengths)
  -- consecutive numbers select adjacent parts, each of the length that its entry says ..
  pub first : start_of lengths 0 ≡ 0
  pub adjacent : (k : ℕ) → start_of lengths (suc k) ≡ start_of lengths k + size_of lengths k
  pub length-is : (k : ℕ) → k < length lengths → pos (length (part_at lengths block k)) ≡ get_or lengths k (pos 0)
  pub before : (k : ℕ) → parts_before lengths block k ≡ take (start_of lengths k) block
  -- .. and all parts joined are the block
  pub all : parts_before lengths block (length lengths) ≡ block

abbrev pub PartsHold : Type 0
PartsHold = (lengths : List ℤ) (block : List ℕ) → AddUp lengths block → Parts lengths block

-- ---- THE PROMISES

module _ (lengths numbers : List ℤ) (flags block fall : List ℕ) (row : ℕ) (r : Result Label Refusal) (part : List ℕ) where
  pub record PartIs : Type 0 where
    -- a name is the part of the block that its number selects ..
    pub name-part : (k : ℕ) → r ≡ name_at (start_of lengths k) (size_of lengths k) → part ≡ part_at lengths block k
    -- .. a row without a name is given the fallback whole ..
    pub fall-part : (n : ℕ) → r ≡ fallback_of n → part ≡ fall
    -- .. and a refused row nothing
    pub no_part : (k : ℕ) → r ≡ refused_with k → part ≡ []
    -- a row without a name never touches the dictionary: any other numbers, and any other lengths and block that add up, give the same
    pub untouched : (n : ℕ) → r ≡ fallback_of n
        → (lengths' numbers' : List ℤ) (block' : List ℕ) → AddUp lengths' block'
        → (r ≡ label lengths' numbers' flags block' fall row) × (part ≡ part_of block' fall (label lengths' numbers' flags block' fall row))

abbrev pub LabelsGiven : Type 0
LabelsGiven =
    (lengths numbers : List ℤ) (flags block fall : List ℕ) (row : ℕ) (r : Result Label Refusal) (part : List ℕ)
    → Labelled lengths numbers flags block fall row r → PartHanded lengths numbers flags block fall row part
    → PartIs lengths numbers flags block fall row r part

-- any two outcomes that the promises allow are equal
abbrev pub LabelsDetermined : Type 0
LabelsDetermined =
    (lengths numbers : List ℤ) (flags block fall : List ℕ) (row : ℕ) (r r' : Result Label Refusal) (part part' : List ℕ)
    → Labelled lengths numbers flags block fall row r → PartHanded lengths numbers flags block fall row part
    → Labelled lengths numbers flags block fall row r' → PartHanded lengths numbers flags block fall row part'
    → (r ≡ r') × (part ≡ part')
