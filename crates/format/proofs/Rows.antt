-- Rows and counts: how many rows a run has, that each is below 2^64, and how many bytes it takes.
-- Assumes nothing.
use Rattle.format.proofs.Common.{◌≡◌, refl, sym, ap, ◌∙◌, ℕ, zero, suc, ◌+◌, ◌*◌, ◌^◌, ◌<◌, ◌≤◌, mod-lt, zero-lt-suc, lt_of_lt_of_le}
use Rattle.format.proofs.Common.{pow-le-pow_right, mul-le-mul, arith, Bool, true, false, List, [], ◌∷◌, ◌++◌, map, pow_pos, pow_mono}
use Rattle.format.proofs.Common.{length, length-map, length-replicate, replicate, length-append}
use native.Mathlib.Numerals.{add-two}
use Rattle.format.specs.Digits.{AllBelow}
use Rattle.format.specs.Fields.{pick, negative, width, block_bytes, bytes_for, row, two64}
use Rattle.format.specs.Runs.{Description, short, direct, fixed, delta, patched, row_count, Valid, layout, Patch, entry_width}
use Rattle.format.specs.Rows
use Rattle.format.specs.Rows.{rows_of, as_i64, i64_rows}
use Rattle.format.specs.Streams.{total_rows, joined_rows}
use Rattle.format.proofs.Fields.{length-block}
use Rattle.format.proofs.Digits.{number_lt}
use Rattle.format.proofs.Patterns.{zigzag-lt}
use Rattle.format.proofs.Widths.{width_is, least-le}
use Rattle.format.proofs.Varints.{varint-length, varint-lt}

length-steps : (n x step : ℕ) → length (Rows.steps n x step) ≡ n
unfolding Rows.steps
length-steps zero x step = refl
length-steps (suc n) x step = ap suc (length-steps n (Rows.plus x step) step)

length-walk : (falling : Bool) (x : ℕ) (ms : List ℕ) → length (Rows.walk falling x ms) ≡ length ms
unfolding Rows.walk
length-walk falling x [] = refl
length-walk falling x (m ∷ ms) = ap suc (length-walk falling (Rows.plus x (pick falling (negative m) m)) ms)

pub length-patched_rows : (base w : ℕ) (ps : List Patch) (p : ℕ) (vs : List ℕ) → length (Rows.patched_rows base w ps p vs) ≡ length vs
unfolding Rows.patched_rows
length-patched_rows base w ps p [] = refl
length-patched_rows base w ps p (v ∷ vs) = ap suc (length-patched_rows base w ps (suc p) vs)

pub rows-count : (signed : Bool) (d : Description) → length (rows_of signed d) ≡ row_count d
unfolding rows_of
rows-count signed (short count value) = length-replicate count _
rows-count signed (direct code k) = length-map k.values (row signed)
rows-count signed (fixed rows first base) = length-steps rows _ _
rows-count signed (delta code first base k) = ap (λ (n : ℕ). suc (suc n)) (length-walk _ _ k.values) ∙ sym (add-two _)
rows-count signed (patched code base pc gw k l) = length-patched_rows _ _ _ 0 k.values

pub i64-count : (signed : Bool) (d : Description) → length (i64_rows signed d) ≡ row_count d
unfolding i64_rows
i64-count signed d = length-map (rows_of signed d) as_i64 ∙ rows-count signed d

pub joined-count : (signed : Bool) (ds : List Description) → length (joined_rows signed ds) ≡ total_rows ds
unfolding joined_rows total_rows
joined-count signed [] = refl
joined-count signed (d ∷ ds) = omega (arith, length-append (i64_rows signed d) (joined_rows signed ds), i64-count signed d, joined-count signed ds)

-- one row at least, and 512 at most
pub row-bounds : (d : Description) → Valid d → (1 ≤ row_count d) × (row_count d ≤ 512)
row-bounds (short count value) v = omega (arith, v)
row-bounds (direct code k) v = omega (arith, v.head)
row-bounds (fixed rows first base) v = omega (arith, v.head)
row-bounds (delta code first base k) v = omega (arith, v.head)
row-bounds (patched code base pc gw k l) v = omega (arith, v.head)

-- bytes consumed
abbrev pub byte_count : Description → ℕ
byte_count (short count value) = 1 + length value
byte_count (direct code k) = 2 + bytes_for (length k.values * width code)
byte_count (fixed rows first base) = 2 + length first + length base
byte_count (delta code first base k) = 2 + length first + length base + bytes_for (length k.values * width code)
byte_count (patched code base pc gw k l) = 4 + length base + bytes_for (length k.values * width code) + bytes_for (length l.values * entry_width pc gw)

pub bytes_count : (d : Description) → length (layout d) ≡ byte_count d
unfolding layout
bytes_count (short count value) = omega arith
bytes_count (direct code k) = omega (arith, length-block (width code) (length k.values) k)
bytes_count (fixed rows first base) = omega (arith, length-append first base)
bytes_count (delta code first base k) =
    omega (
      arith,
      length-append first (base ++ block_bytes (width code) (length k.values) k),
      length-append base (block_bytes (width code) (length k.values) k),
      length-block (width code) (length k.values) k,
    )
bytes_count (patched code base pc gw k l) =
    omega (
      arith,
      length-append base (block_bytes (width code) (length k.values) k ++ block_bytes (entry_width pc gw) (length l.values) l),
      length-append (block_bytes (width code) (length k.values) k) (block_bytes (entry_width pc gw) (length l.values) l),
      length-block (width code) (length k.values) k,
      length-block (entry_width pc gw) (length l.values) l,
    )

-- the longest run: a patched header, eight bytes of base, 512 values and 31 entries of 64 bits
block-le : (n w m : ℕ) → n ≤ m → w ≤ 64 → bytes_for (n * w) ≤ 8 * m
block-le n w m h l = omega (arith, mul-le-mul h l)

pub byte-bounds : (d : Description) → Valid d → length (layout d) ≤ 4356
byte-bounds d v = rw (bytes_count d) (by d v)
  where
    by : (d : Description) → Valid d → byte_count d ≤ 4356
    by (short count value) v = omega (arith, v.eight)
    by (direct code k) v = omega (arith, block-le (length k.values) (width code) 512 v.head.rows_fit (width_is code).le)
    by (fixed rows first base) v = omega (arith, varint-length 10 first v.first-varint, varint-length 10 base v.base-varint)
    by (delta code first base k) v =
        omega (
          arith,
          varint-length 10 first v.first-varint,
          varint-length 10 base v.base-varint,
          block-le (length k.values) (width code) 512 (omega (arith, v.head.rows_fit)) (width_is code).le,
        )
    by (patched code base pc gw k l) v =
        omega (
          arith,
          v.eight,
          block-le (length k.values) (width code) 512 v.head.rows_fit (width_is code).le,
          block-le (length l.values) (entry_width pc gw) 31 (omega (arith, v.entries_fit)) (least-le (width pc + gw)),
        )

-- ---- each row is below 2^64

below-map : (f : ℕ → ℕ) (b c : ℕ) (l : List ℕ) → ((x : ℕ) → x < b → f x < c) → AllBelow b l → AllBelow c (map f l)
below-map f b c [] h p = tt
below-map f b c (x ∷ l) h p = (h x p.0, below-map f b c l h p.1)

pub below-replicate : (b n x : ℕ) → x < b → AllBelow b (replicate n x)
below-replicate b zero x h = tt
below-replicate b (suc n) x h = (h, below-replicate b n x h)

pub width-le : (code : ℕ) → width code ≤ 64
width-le code = (width_is code).le

plus-lt : (x y : ℕ) → Rows.plus x y < two64
plus-lt x y = mod-lt (x + y) (pow_pos 64)

pub row_lt : (signed : Bool) (u : ℕ) → u < two64 → row signed u < two64
unfolding row
row_lt false u h = h
row_lt true u h = zigzag-lt u h

below_steps : (n x step : ℕ) → x < two64 → AllBelow two64 (Rows.steps n x step)
unfolding Rows.steps
below_steps zero x step h = tt
below_steps (suc n) x step h = (h, below_steps n (Rows.plus x step) step (plus-lt x step))

below-walk : (falling : Bool) (x : ℕ) (ms : List ℕ) → AllBelow two64 (Rows.walk falling x ms)
unfolding Rows.walk
below-walk falling x [] = tt
below-walk falling x (m ∷ ms) = (plus-lt x _, below-walk falling (Rows.plus x (pick falling (negative m) m)) ms)

below-patched : (base w : ℕ) (ps : List Patch) (p : ℕ) (vs : List ℕ) → AllBelow two64 (Rows.patched_rows base w ps p vs)
unfolding Rows.patched_rows
below-patched base w ps p [] = tt
below-patched base w ps p (v ∷ vs) = (plus-lt base _, below-patched base w ps (suc p) vs)

pub rows-below : (signed : Bool) (d : Description) → Valid d → AllBelow two64 (rows_of signed d)
unfolding rows_of
rows-below signed (short count value) v =
    below-replicate two64 count _ (row_lt signed _ (lt_of_lt_of_le (number_lt 256 value v.bytes) (pow-le-pow_right (zero-lt-suc 255) v.eight)))
rows-below signed (direct code k) v =
    below-map (row signed) (2 ^ width code) two64 k.values (λ x h. row_lt signed x (lt_of_lt_of_le h (pow_mono (width-le code)))) v.block.fits
rows-below signed (fixed rows first base) v = below_steps rows _ _ (row_lt signed _ (varint-lt first v.first-varint))
rows-below signed (delta code first base k) v = (row_lt signed _ (varint-lt first v.first-varint), (plus-lt _ _, below-walk _ _ k.values))
rows-below signed (patched code base pc gw k l) v = below-patched _ _ _ 0 k.values
