-- The table of numbers (FORMAT.md, "Refusals") that the run reader gives: "given exactly when". Each line is said of the bytes, in the
-- table's words, with what the reading order adds: 1, 2, 4; then 5 and the numbers of a cut field (6, 12, 13, 14) in byte order; then 3;
-- then 7; then 8. No other number is given, and a byte exactly with those of a cut field.
-- Assumes nothing.
use Rattle.std.specs.Prelude.{◌≡◌, ◌↔◌, ◌⊎◌, ℕ, zero, suc, ◌+◌, ◌-◌, ◌*◌, ◌/◌, ◌%◌, ◌<◌, ◌≤◌, Bool, List, [], ◌∷◌, ◌++◌, length, get_or, take, drop, ℤ}
use Rattle.format.specs.Answers.{Answer, refused_at, cut_at}
use Rattle.format.specs.Digits.{AllBelow, number}
use Rattle.format.specs.Fields.{width, bytes_for, Varint}
use Rattle.format.specs.Runs.{Description, row_count, Valid, layout, entry_width}
use Rattle.format.specs.Parse.{Reason, plain, cut_in, refused, parse, into, unpack}
use Rattle.format.specs.Promises.{RunRead}
use Rattle.promises.specs.PatchLists.{TooLarge, OutOfPlace}

-- ---- the header's fields

abbrev pub byte : ℕ → List ℕ → ℕ
byte i bs = get_or bs i 0

-- 2 bits kind: 0 short repeat, 1 direct, 2 patched base, 3 delta
abbrev pub kind : List ℕ → ℕ
kind bs = byte 0 bs / 64

-- the fixed header: short repeat 1, direct 2, patched 4, delta 2 bytes
abbrev pub header_of : ℕ → ℕ
header_of zero = 1
header_of (suc zero) = 2
header_of (suc (suc zero)) = 4
header_of (suc (suc (suc k))) = 2

-- short repeat: 3 bits size-1
abbrev pub size : List ℕ → ℕ
size bs = byte 0 bs / 8 + 1

-- 5 bits width code, 9 bits rows-1
abbrev pub code : List ℕ → ℕ
code bs = byte 0 bs % 64 / 2

abbrev pub rows : List ℕ → ℕ
rows bs = byte 0 bs % 2 * 256 + byte 1 bs + 1

-- patched: 3 bits base bytes-1, 5 bits patch width code, 3 bits gap width-1, 5 bits list length
abbrev pub base_bytes : List ℕ → ℕ
base_bytes bs = byte 2 bs / 32 + 1

abbrev pub patch_code : List ℕ → ℕ
patch_code bs = byte 2 bs % 32

abbrev pub gap_width : List ℕ → ℕ
gap_width bs = byte 3 bs / 32 + 1

abbrev pub list_length : List ℕ → ℕ
list_length bs = byte 3 bs % 32

-- a run of this kind, whose fixed header is all there
pub record Headed (k : ℕ) (bs : List ℕ) : Type 0 where
  pub is-kind : kind bs ≡ k
  pub header : header_of k ≤ length bs

-- ---- the parts of the body

-- the bytes that L packed values need, and those of a patch list
abbrev pub value_bytes : List ℕ → ℕ
value_bytes bs = bytes_for (rows bs * width (code bs))

abbrev pub list_bytes : List ℕ → ℕ
list_bytes bs = bytes_for (list_length bs * entry_width (patch_code bs) (gap_width bs))

-- the bytes of a delta run's L-2 magnitudes: none with code 0
abbrev pub magnitude_bytes : ℕ → ℕ → ℕ
magnitude_bytes zero l = 0
magnitude_bytes (suc c) l = bytes_for ((l - 2) * width (suc c))

-- where a patch list begins and where it ends
abbrev pub list_from : List ℕ → ℕ
list_from bs = 4 + base_bytes bs + value_bytes bs

abbrev pub list_to : List ℕ → ℕ
list_to bs = list_from bs + list_bytes bs

-- its entries, out of its bytes
abbrev pub entries : List ℕ → List ℕ
entries bs = (unpack (entry_width (patch_code bs) (gap_width bs)) (list_length bs)
    (number 256 (take (list_bytes bs) (drop (list_from bs) bs)))).values

-- each byte has the top bit set
abbrev pub AllTop : List ℕ → Type 0
AllTop [] = Unit {0}
AllTop (b ∷ bs) = (128 ≤ b) × AllTop bs

-- a varint is wanted, and its tenth byte, after nine with the top bit set, is above 1; or the input ends before the varint does
abbrev pub TenthAbove : ℕ → List ℕ → Type 0
TenthAbove nine s = (nine < length s) × AllTop (take nine s) × (1 < get_or s nine 0)

abbrev pub Unended : ℕ → List ℕ → Type 0
Unended ten s = (length s < ten) × AllTop s

-- ---- refusals 2 and 4 do not apply

pub record PatchedRun (bs : List ℕ) : Type 0 where
  pub headed : Headed 2 bs
  pub not-2 : width (patch_code bs) + gap_width bs ≤ 64

pub record DeltaRun (bs : List ℕ) : Type 0 where
  pub headed : Headed 3 bs
  pub not-4 : (code bs ≡ 0) ⊎ (2 ≤ rows bs)

-- ---- THE TABLE

-- 1: a run has begun and its fixed header isn't all there
abbrev pub Line1 : List ℕ → Type 0
Line1 bs = (1 ≤ length bs) × (length bs < header_of (kind bs))

-- 2: patched: patch width + gap width is over 64
abbrev pub Line2 : List ℕ → Type 0
Line2 bs = Headed 2 bs × (64 < width (patch_code bs) + gap_width bs)

-- 4: delta: width code not 0, one row
abbrev pub Line4 : List ℕ → Type 0
Line4 bs = Headed 3 bs × (1 ≤ code bs) × (rows bs ≡ 1)

-- 5: a varint's tenth byte is above 1: the first row's, or after it the base delta's
pub data Line5 (bs : List ℕ) : Type 0 where
  first-row : DeltaRun bs → TenthAbove 9 (drop 2 bs) → Line5 bs
  base-delta : (first rest : List ℕ) → DeltaRun bs → drop 2 bs ≡ first ++ rest → Varint 10 first → TenthAbove 9 rest → Line5 bs

-- 6, 12, 13, 14: the input ends in a field. The number, and the byte of the run where the field begins.
pub data CutLine (bs : List ℕ) : ℕ → ℕ → Type 0 where
  -- 6: in a short repeat value, or a patched base
  in-value : Headed 0 bs → length bs < 1 + size bs → CutLine bs 6 1
  in-base : PatchedRun bs → length bs < 4 + base_bytes bs → CutLine bs 6 4
  -- 12: in a varint
  in-first-row : DeltaRun bs → Unended 10 (drop 2 bs) → CutLine bs 12 2
  in-base-delta : (first rest : List ℕ) → DeltaRun bs → drop 2 bs ≡ first ++ rest → Varint 10 first → Unended 10 rest
      → CutLine bs 12 (2 + length first)
  -- 13: in packed rows
  in_rows : Headed 1 bs → length bs < 2 + value_bytes bs → CutLine bs 13 2
  in-magnitudes : (first base rest : List ℕ) → DeltaRun bs → drop 2 bs ≡ first ++ (base ++ rest) → Varint 10 first → Varint 10 base
      → length rest < magnitude_bytes (code bs) (rows bs) → CutLine bs 13 (2 + (length first + length base))
  in-values : PatchedRun bs → 4 + base_bytes bs ≤ length bs → length bs < list_from bs → CutLine bs 13 (4 + base_bytes bs)
  -- 14: in a patch list
  in_list : PatchedRun bs → list_from bs ≤ length bs → length bs < list_to bs → CutLine bs 14 (list_from bs)

-- the numbers of a cut field
pub data CutNumber : ℕ → Type 0 where
  six : CutNumber 6
  twelve : CutNumber 12
  thirteen : CutNumber 13
  fourteen : CutNumber 14

-- 3: patched: some non-skip entry's patch is 2^(64-W) or more
abbrev pub Line3 : List ℕ → Type 0
Line3 bs = PatchedRun bs × (list_to bs ≤ length bs) × TooLarge (width (code bs)) (width (patch_code bs)) (entries bs)

-- 7: patch list out of place
abbrev pub Line7 : List ℕ → Type 0
Line7 bs =
    PatchedRun bs × (list_to bs ≤ length bs) × (TooLarge (width (code bs)) (width (patch_code bs)) (entries bs) → ⊥)
    × OutOfPlace (width (patch_code bs)) (rows bs) (entries bs)

-- 8: the output has too few places, for a run that nothing else refuses
abbrev pub Line8 : ℕ → List ℕ → Type 0
Line8 places bs = (d : Description) × (rest : List ℕ) × Valid d × (bs ≡ layout d ++ rest) × (places < row_count d)

pub data Table (places : ℕ) (bs : List ℕ) : ℕ → Type 0 where
  refusal-1 : Line1 bs → Table places bs 1
  refusal-2 : Line2 bs → Table places bs 2
  refusal-3 : Line3 bs → Table places bs 3
  refusal-4 : Line4 bs → Table places bs 4
  refusal-5 : Line5 bs → Table places bs 5
  refusal-7 : Line7 bs → Table places bs 7
  refusal-8 : Line8 places bs → Table places bs 8

-- why a refusal is given: by its number's line, or by the field that the input ends in
pub data TableGives (places : ℕ) (bs : List ℕ) : Reason → Type 0 where
  by_number : {n : ℕ} → Table places bs n → TableGives places bs (plain n)
  by_field : {n field : ℕ} → CutLine bs n field → TableGives places bs (cut_in n (drop field bs))

-- for every list of bytes and number of places: a refusal is given exactly when its line of the table holds ..
abbrev pub RefusalsHold : Type 0
RefusalsHold = (places : ℕ) (bs : List ℕ) → AllBelow 256 bs → (r : Reason) → (into places (parse bs) ≡ refused r) ↔ TableGives places bs r

-- .. and so says the run reader's promise, of every input, position, flag and places: a number with the byte where the refused run
-- begins, and for a cut field also the byte where the field begins
pub record Answers (bs : List ℕ) (at places : ℕ) (r : Answer) : Type 0 where
  pub numbers : (n : ℕ) → (r ≡ refused_at n at) ↔ Table places bs n
  pub fields : (n byte : ℕ) → (r ≡ cut_at n at byte) ↔ ((field : ℕ) × CutLine bs n field × (byte ≡ at + field))

abbrev pub AnswersHold : Type 0
AnswersHold =
    (input : List ℕ) → AllBelow 256 input → (at : ℕ) (signed : Bool) (out out' : List ℤ) (r : Answer) → RunRead input at signed out out' r
    → Answers (drop at input) at (length out) r
