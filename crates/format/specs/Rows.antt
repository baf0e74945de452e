-- The rows that a description stands for, as numbers below 2^64 (an i64 row is the number with the same bits). Sums are modulo 2^64.
-- Assumes nothing.
use Rattle.std.specs.Prelude.{ℕ, zero, suc, ◌+◌, ◌-◌, ◌*◌, ◌%◌, ◌^◌, Bool, List, [], ◌∷◌, map, length, replicate, ℤ, pos, negsuc, leb, ltb, eqb}
use Rattle.format.specs.Digits.{number}
use Rattle.format.specs.Fields.{pick, width, two64, negative, zigzag, row, varint_value}
use Rattle.format.specs.Runs.{Description, short, direct, fixed, delta, patched, Patch, patches}

abbrev pub plus : ℕ → ℕ → ℕ
plus x y = (x + y) % two64

-- n rows, each the one before it plus the step
unfoldable pub steps : ℕ → ℕ → ℕ → List ℕ
steps zero x step = []
steps (suc n) x step = x ∷ steps n (plus x step) step

-- the rows after x, by their magnitudes: subtracted when falling, and added otherwise
unfoldable pub walk : Bool → ℕ → List ℕ → List ℕ
walk falling x [] = []
walk falling x (m ∷ ms) = let y = plus x (pick falling (negative m) m) in y ∷ walk falling y ms

-- a patched run's base: the top bit of its bytes is the sign, the rest the magnitude
unfoldable pub base_value : List ℕ → ℕ
base_value bs =
    pick (leb (2 ^ (8 * length bs - 1)) (number 256 bs)) (negative (number 256 bs % 2 ^ (8 * length bs - 1))) (number 256 bs)

-- the patch at a place; 0 if there is none
unfoldable pub patch_at : ℕ → List Patch → ℕ
patch_at p [] = 0
patch_at p (q ∷ qs) = pick (eqb p q.place) q.patch (patch_at p qs)

-- rows from place p on: base + (value or patch·2^w)
unfoldable pub patched_rows : ℕ → ℕ → List Patch → ℕ → List ℕ → List ℕ
patched_rows base w ps p [] = []
patched_rows base w ps p (v ∷ vs) = plus base (v + patch_at p ps * 2 ^ w) ∷ patched_rows base w ps (suc p) vs

unfoldable pub rows_of : Bool → Description → List ℕ
rows_of signed (short count value) = replicate count (row signed (number 256 value))
rows_of signed (direct code k) = map (row signed) k.values
rows_of signed (fixed rows first base) = steps rows (row signed (varint_value first)) (zigzag (varint_value base))
rows_of signed (delta code first base k) =
    let x = row signed (varint_value first) in
    let step = zigzag (varint_value base) in
    let y = plus x step in
    x ∷ y ∷ walk (leb (2 ^ 63) step) y k.values
rows_of signed (patched code base pc gw k l) = patched_rows (base_value base) (width code) (patches (width pc) l.values) 0 k.values

-- ---- ROWS AS I64: a row at or above 2^63 shows as the i64 with the same bits

unfoldable pub as_i64 : ℕ → ℤ
as_i64 b = pick (ltb b (2 ^ 63)) (pos b) (negsuc (two64 - 1 - b))

-- and back: the 64 bits of an i64, as a number
abbrev pub as_u64 : ℤ → ℕ
as_u64 (pos n) = n
as_u64 (negsuc n) = two64 - 1 - n

unfoldable pub i64_rows : Bool → Description → List ℤ
i64_rows signed d = map as_i64 (rows_of signed d)
