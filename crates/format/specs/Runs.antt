-- Run descriptions, which of them are valid, and the bytes that each lays down (FORMAT.md, from "Short repeat" to "Patch lists").
-- Nothing here reads: `layout` is defined by the fields alone. Assumes nothing.
use Rattle.std.specs.Prelude.{ℕ, ◌+◌, ◌-◌, ◌*◌, ◌/◌, ◌%◌, ◌^◌, ◌<◌, ◌≤◌, Bool, false, not, ◌&&◌, ◌||◌, List, [], ◌∷◌, ◌++◌, length, T, leb, eqb}
use Rattle.format.specs.Digits.{AllBelow}
use Rattle.format.specs.Fields.{pick, width, least_width, Block, IsBlock, block_bytes, Varint}

pub data Description : Type 0 where
  -- count, value bytes
  short : ℕ → List ℕ → Description
  -- width code, rows
  direct : ℕ → Block → Description
  -- delta of code 0: rows, first row's varint, base delta's varint
  fixed : ℕ → List ℕ → List ℕ → Description
  -- delta of another width code: code, first row's varint, base delta's varint, magnitudes
  delta : ℕ → List ℕ → List ℕ → Block → Description
  -- width code, base bytes, patch width code, gap width, values, list of entries
  patched : ℕ → List ℕ → ℕ → ℕ → Block → Block → Description

-- the rows that a run holds
abbrev pub row_count : Description → ℕ
row_count (short count value) = count
row_count (direct code k) = length k.values
row_count (fixed rows first base) = rows
row_count (delta code first base k) = length k.values + 2
row_count (patched code base pc gw k l) = length k.values

-- ---- PATCH PLACES

-- in an entry the patch is the low patch-width bits, and the gap is all bits above
abbrev pub patch_of : ℕ → ℕ → ℕ
patch_of pw e = e % 2 ^ pw

abbrev pub gap_of : ℕ → ℕ → ℕ
gap_of pw e = e / 2 ^ pw

-- an entry with gap 255 and patch 0 is a skip
abbrev pub is_skip : ℕ → ℕ → Bool
is_skip pw e = eqb (gap_of pw e) 255 && eqb (patch_of pw e) 0

pub record Patch : Type 0 where
  pub place : ℕ
  pub patch : ℕ

-- The entries that are no skips, each with its place: the sum of all gaps up to its own. `before` is the sum of the gaps before the list.
unfoldable pub patches_from : ℕ → ℕ → List ℕ → List Patch
patches_from pw before [] = []
patches_from pw before (e ∷ es) =
    pick (is_skip pw e) (patches_from pw (before + gap_of pw e) es)
    (record { place = before + gap_of pw e; patch = patch_of pw e } ∷ patches_from pw (before + gap_of pw e) es)

unfoldable pub patches : ℕ → List ℕ → List Patch
patches pw es = patches_from pw 0 es

unfoldable pub last_is_skip : ℕ → List ℕ → Bool
last_is_skip pw [] = false
last_is_skip pw (e ∷ []) = is_skip pw e
last_is_skip pw (e ∷ f ∷ es) = last_is_skip pw (f ∷ es)

-- some patch of the list has this place
unfoldable pub taken : ℕ → List Patch → Bool
taken p [] = false
taken p (q ∷ qs) = eqb p q.place || taken p qs

-- two patches share a place
unfoldable pub shared : List Patch → Bool
shared [] = false
shared (q ∷ qs) = taken q.place qs || shared qs

-- some patch has a place of `rows` or more
unfoldable pub outside : ℕ → List Patch → Bool
outside rows [] = false
outside rows (q ∷ qs) = leb rows q.place || outside rows qs

-- refusal 7: the last entry is a skip, two non-skip entries share a place, or a non-skip entry's place is `rows` or more
unfoldable pub out_of_place : ℕ → ℕ → List ℕ → Bool
out_of_place pw rows es = last_is_skip pw es || (shared (patches pw es) || outside rows (patches pw es))

-- refusal 3: some non-skip entry's patch is 2^(64-W) or more, W being the value width; at 64 bits no patch but 0 is left
abbrev pub patch_limit : ℕ → ℕ
patch_limit w = pick (eqb w 64) 1 (2 ^ (64 - w))

unfoldable pub too_large : ℕ → List Patch → Bool
too_large w [] = false
too_large w (q ∷ qs) = leb (patch_limit w) q.patch || too_large w qs

-- the list is packed at the least table width that holds patch width + gap width
abbrev pub entry_width : ℕ → ℕ → ℕ
entry_width pc gw = least_width (width pc + gw)

-- ---- VALID: the fields are in the header's range, and none of refusals 2, 3, 4, 5 and 7 applies

pub record ValidShort (count : ℕ) (value : List ℕ) : Type 0 where
  pub few : 3 ≤ count
  pub many : count ≤ 10
  pub some_bytes : 1 ≤ length value
  pub eight : length value ≤ 8
  pub bytes : AllBelow 256 value

-- a width code and a row count: five bits, and nine bits that hold one less
pub record ValidHead (code rows : ℕ) : Type 0 where
  pub code_fits : code < 32
  pub some-rows : 1 ≤ rows
  pub rows_fit : rows ≤ 512

pub record ValidDirect (code : ℕ) (k : Block) : Type 0 where
  pub head : ValidHead code (length k.values)
  pub block : IsBlock (width code) (length k.values) k

pub record ValidFixed (rows : ℕ) (first base : List ℕ) : Type 0 where
  pub head : ValidHead 0 rows
  pub first-varint : Varint 10 first
  pub base-varint : Varint 10 base

-- refusal 4 does not apply: with another code than 0 there are at least two rows
pub record ValidDelta (code : ℕ) (first base : List ℕ) (k : Block) : Type 0 where
  pub head : ValidHead code (length k.values + 2)
  pub not-fixed : 1 ≤ code
  pub first-varint : Varint 10 first
  pub base-varint : Varint 10 base
  pub block : IsBlock (width code) (length k.values) k

pub record ValidPatched (code : ℕ) (base : List ℕ) (pc gw : ℕ) (k l : Block) : Type 0 where
  pub head : ValidHead code (length k.values)
  pub some_bytes : 1 ≤ length base
  pub eight : length base ≤ 8
  pub bytes : AllBelow 256 base
  pub patch-code : pc < 32
  pub gap-low : 1 ≤ gw
  pub gap-high : gw ≤ 8
  pub entries_fit : length l.values < 32
  pub not-2 : width pc + gw ≤ 64
  pub block : IsBlock (width code) (length k.values) k
  pub list : IsBlock (entry_width pc gw) (length l.values) l
  pub not-3 : T (not (too_large (width code) (patches (width pc) l.values)))
  pub not-7 : T (not (out_of_place (width pc) (length k.values) l.values))

abbrev pub Valid : Description → Type 0
Valid (short count value) = ValidShort count value
Valid (direct code k) = ValidDirect code k
Valid (fixed rows first base) = ValidFixed rows first base
Valid (delta code first base k) = ValidDelta code first base k
Valid (patched code base pc gw k l) = ValidPatched code base pc gw k l

-- ---- LAYOUT

-- two bytes: 2 bits kind, 5 bits width code, 9 bits rows-1
abbrev pub head₀ : ℕ → ℕ → ℕ → ℕ
head₀ kind code rows = kind * 64 + code * 2 + (rows - 1) / 256

abbrev pub head₁ : ℕ → ℕ
head₁ rows = (rows - 1) % 256

abbrev pub head : ℕ → ℕ → ℕ → List ℕ
head kind code rows = head₀ kind code rows ∷ head₁ rows ∷ []

unfoldable pub layout : Description → List ℕ
-- 2 bits kind (00), 3 bits size-1, 3 bits count-3; then size bytes
layout (short count value) = ((length value - 1) * 8 + (count - 3)) ∷ value
layout (direct code k) = head 1 code (length k.values) ++ block_bytes (width code) (length k.values) k
layout (fixed rows first base) = head 3 0 rows ++ (first ++ base)
layout (delta code first base k) =
    head 3 code (length k.values + 2) ++ (first ++ (base ++ block_bytes (width code) (length k.values) k))
-- the header adds: 3 bits base bytes-1, 5 bits patch width code, 3 bits gap width-1, 5 bits list length
layout (patched code base pc gw k l) =
    head 2 code (length k.values)
    ++ (((length base - 1) * 32 + pc) ∷ ((gw - 1) * 32 + length l.values)
    ∷ (base ++ (block_bytes (width code) (length k.values) k ++ block_bytes (entry_width pc gw) (length l.values) l)))

-- ---- STREAMS: runs one after another

abbrev pub AllValid : List Description → Type 0
AllValid [] = Unit {0}
AllValid (d ∷ ds) = Valid d × AllValid ds

unfoldable pub joined : List Description → List ℕ
joined [] = []
joined (d ∷ ds) = layout d ++ joined ds
