-- What reading packed fields rests on: bits are those of any window of bytes that holds them, and field k of a block is bits k·w to k·w+w-1.
-- Assumes nothing.
use Rattle.format.proofs.Common.{◌≡◌, sym, ap, ◌∙◌, ℕ, suc, ◌+◌, ◌-◌, ◌*◌, ◌/◌, ◌%◌, ◌^◌, ◌≤◌, ◌<◌, le_refl, mul-le-mul_right, zero-lt-suc}
use Rattle.format.proofs.Common.{pow-zero, div-one, mod-eq_of_lt, div-lt_iff_lt-mul, dec_le, add-one, arith, List, [], ◌∷◌, ◌++◌, map}
use Rattle.format.proofs.Common.{map-append, append_assoc, length, get_or, set, take, drop, length-append, length-drop, length-map}
use Rattle.format.proofs.Common.{take-append-drop, ℤ, pos, take_at, take_all, drop_at, take-suc, drop-cons, set_at, take-add, drop-drop}
use Rattle.format.proofs.Common.{take-append-le, drop-append-le, drop-append-add, length-take-le, pow-add, pow_pos, shr-shr, high}
use Rattle.std.proofs.Common.{lt_of_not-le}
use native.Mathlib.Numerals.{towards_suc}
use lib.Pow.{ones_split, ones_lt}
use Rattle.format.specs.Digits.{AllBelow, number, digits, spread}
use Rattle.format.specs.Fields.{bytes_for, pad_bits}
use Rattle.format.specs.Rows.{as_i64}
use Rattle.format.proofs.Digits.{spread-number, digits-add, length_digits, number-low, getD-digits, pow-pow, length-spread, spread-append}
use Rattle.format.proofs.Below.{below_all, below-take, below-drop}
use Rattle.format.proofs.Widths.{IsWidth}
use Rattle.util.proofs.BigEndian.{number-bits}
use Rattle.util.specs.Packed.{fields, bits, field_at, Width, FieldsLaid}
use Rattle.std.specs.Int.{w16, w32, w64, from_be_bytes}

-- ---- bits

-- the bits as a quotient and a remainder
bits-value : (p w : ℕ) (s : List ℕ) → AllBelow 256 s → p + w ≤ 8 * length s
    → bits p w s ≡ number 256 s / 2 ^ (8 * length s - (p + w)) % 2 ^ w
unfolding bits
bits-value p w s d h =
    let a = 8 * length s - (p + w) in
    let x = number 256 s in
    let e : length s * 8 ≡ p + (w + a) = omega arith in
    let f : spread 2 8 s ≡ digits 2 p (x / 2 ^ (w + a)) ++ (digits 2 w (x / 2 ^ a) ++ digits 2 a x)
    = sym (spread-number 2 8 s (zero-lt-suc 1) d) ∙ rw (e, digits-add 2 p (w + a), digits-add 2 w a) in
    rw (f, drop_at (digits 2 p (x / 2 ^ (w + a))) _ p (length_digits 2 p _), take_at (digits 2 w (x / 2 ^ a)) _ w (length_digits 2 w _))
    (number-low 2 (zero-lt-suc 1) w (x / 2 ^ a))

-- the bits from p on are those of any run of bytes x that holds them
bits-within : (h x r : List ℕ) (p w : ℕ) → 8 * length h ≤ p → p + w ≤ 8 * (length h + length x) → bits p w (h ++ (x ++ r)) ≡ bits (p - 8 * length h) w x
unfolding bits
bits-within h x r p w lo hi =
    let q = p - 8 * length h in
    let e : p ≡ length (spread 2 8 h) + q = rw length-spread (omega arith) in
    let l : q + w ≤ length (spread 2 8 x) = rw length-spread (omega arith) in
    ap (λ (n : ℕ). number 2 (take w (drop n (spread 2 8 (h ++ (x ++ r)))))) e
    ∙ rw (
      spread-append 2 8 h,
      spread-append 2 8 x r,
      drop-append-add (spread 2 8 h),
      drop-append-le q (spread 2 8 x) (spread 2 8 r) (omega arith),
      take-append-le w (drop q (spread 2 8 x)) (spread 2 8 r) (rw length-drop (omega arith)),
    )

-- a window of m bytes at i that holds the bits
pub window : (s : List ℕ) (i m p w : ℕ) → AllBelow 256 s → i + m ≤ length s → 8 * i ≤ p → p + w ≤ 8 * (i + m)
    → bits p w s ≡ number 256 (take m (drop i s)) / 2 ^ (8 * (i + m) - (p + w)) % 2 ^ w
window s i m p w d h lo hi =
    let x = take m (drop i s) in
    let li : length (take i s) ≡ i = length-take-le i s (omega arith) in
    let lx : length x ≡ m = length-take-le m (drop i s) (rw length-drop (omega arith)) in
    let c : bits p w s ≡ bits (p - 8 * i) w x
    = rw (take-append-drop m (drop i s), take-append-drop i s, li) at (bits-within (take i s) x (drop m (drop i s)) p w (omega arith) (omega arith)) in
    let e : 8 * m - (p - 8 * i + w) ≡ 8 * (i + m) - (p + w) = omega arith in
    c ∙ rw (lx, e) at (bits-value (p - 8 * i) w x (below-take 256 m (drop i s) (below-drop 256 i s d)) (omega arith))

-- bits that are m whole bytes are those bytes' number
pub whole : (s : List ℕ) (i m : ℕ) → ((k : ℕ) → get_or s k 0 < 256) → i + m ≤ length s → bits (8 * i) (8 * m) s ≡ number 256 (take m (drop i s))
whole s i m f h =
    let e : 8 * (i + m) - (8 * i + 8 * m) ≡ 0 = omega arith in
    window s i m (8 * i) (8 * m) (below_all 256 s f) h (omega arith) (omega arith) ∙ rw (e, pow-zero, div-one) (mod-eq_of_lt (number-bits s i f m h))

-- and the first m of eight bytes are the highest of their word
pub of_word : (s : List ℕ) (i m : ℕ) → ((k : ℕ) → get_or s k 0 < 256) → m ≤ 8 → i + 8 ≤ length s
    → number 256 (take 8 (drop i s)) / 2 ^ (64 - 8 * m) ≡ number 256 (take m (drop i s))
of_word s i m f h l =
    let e : 8 * (i + 8) - (8 * i + 8 * m) ≡ 64 - 8 * m = omega arith in
    let q : 64 ≡ 8 * m + (64 - 8 * m) = omega arith in
    let r : number 256 (take 8 (drop i s)) < 2 ^ (8 * m) * 2 ^ (64 - 8 * m) = rw (← (pow-add 2 (8 * m) (64 - 8 * m)), ← q) (number-bits s i f 8 l) in
    let b = (div-lt_iff_lt-mul (pow_pos (64 - 8 * m))).1 r in
    sym (mod-eq_of_lt b) ∙ sym (rw e at (window s i 8 (8 * i) (8 * m) (below_all 256 s f) l (omega arith) (omega arith))) ∙ whole s i m f (omega arith)

-- ---- fields

-- FORMAT.md's words ("Packed blocks"), for any width: field k of n that s begins with is bits k·w to k·w+w-1, highest bit of each byte first.
pub field-at : (w n k : ℕ) (s : List ℕ) → AllBelow 256 s → k < n → bytes_for (n * w) ≤ length s → get_or (fields w n s) k 0 ≡ field_at w k s
field-at w n k s d h l =
    let m = bytes_for (n * w) in
    let j = n - 1 - k in
    let q : (k + 1 + j) * w ≡ n * w = ap (λ (y : ℕ). y * w) (omega arith) in
    let e : pad_bits w n + j * w ≡ 8 * (0 + m) - (k * w + w) = omega arith in
    getD-digits (2 ^ w) n _ k h ∙ rw (pow-pow 2 w j, shr-shr, e) (sym (window s 0 m (k * w) w d (omega arith) (omega arith) (omega arith)))

pub length_fields : (w n : ℕ) (s : List ℕ) → length (fields w n s) ≡ n
length_fields w n s = length_digits (2 ^ w) n _

-- one more field is laid
pub laid_more : (w n k : ℕ) (z : ℤ) (s : List ℕ) (o out : List ℤ) → AllBelow 256 s → bytes_for (n * w) ≤ length s → k < n → k < length out
    → z ≡ as_i64 (field_at w k s) → FieldsLaid w n s k o out → FieldsLaid w n s (k + 1) o (set out k z)
laid_more w n k z s o out d l h r e t =
    let p = map as_i64 (take k (fields w n s)) in
    let q : length p ≡ k = rw (length-map, length-take-le k (fields w n s) (rw length_fields t.few)) in
    let m : k < length o = omega (arith, rw (length-append, q, length-drop) at (ap length t.rows)) in
    record {
      few = omega arith;
      rows = rw (
        t.rows,
        drop-cons o k (pos 0) m,
        set_at p _ _ z k q,
        add-one,
        take-suc (fields w n s) k 0 (rw length_fields h),
        field-at w n k s d h l,
        map-append,
        append_assoc,
        e,
      );
    }

-- and one more, found from bit q on
pub laid-row : (w n k m q : ℕ) (z : ℤ) (s : List ℕ) (o out : List ℤ) → AllBelow 256 s → bytes_for (n * w) ≤ length s → k < n → k < length out
    → z ≡ as_i64 (bits q w s) → q ≡ k * w → k + 1 ≡ m → FieldsLaid w n s k o out → FieldsLaid w n s m o (set out k z)
laid-row w n k m q z s o out d l h r e p i t = rw i at (laid_more w n k z s o out d l h r (e ∙ ap (λ (x : ℕ). as_i64 (bits x w s)) p) t)

-- all fields are laid
pub laid-all : (w n : ℕ) (s : List ℕ) (o out : List ℤ) → FieldsLaid w n s n o out → out ≡ map as_i64 (fields w n s) ++ drop n o
laid-all w n s o out t = rw (take_all n (fields w n s) (rw length_fields (le_refl n))) at t.rows

-- a field of width w starts where eight bytes hold it
pub aligned : (w j : ℕ) → Width w → (j * w) % 8 + w ≤ 64
aligned w j h = by (dec_le w 56)
  where
    by : Dec (w ≤ 56) → (j * w) % 8 + w ≤ 64
    by (yes l) = omega arith
    by (no n) = rw (h.2 (lt_of_not-le n)) (omega arith)

-- ---- eight bytes at once

four_bytes : (s : List ℕ) (i : ℕ) → i + 4 ≤ length s
    → take 4 (drop i s) ≡ get_or s i 0 ∷ get_or s (i + 1) 0 ∷ get_or s (i + 2) 0 ∷ get_or s (i + 3) 0 ∷ []
four_bytes s i h =
    simp towards_suc
    (rw (
      drop-cons s i 0 (omega arith),
      drop-cons s (suc i) 0 (omega arith),
      drop-cons s (suc (suc i)) 0 (omega arith),
      drop-cons s (suc (suc (suc i))) 0 (omega arith),
    ))

pub half_is : (s : List ℕ) (i : ℕ) → i + 4 ≤ length s
    → from_be_bytes w32 (get_or s i 0 ∷ get_or s (i + 1) 0 ∷ get_or s (i + 2) 0 ∷ get_or s (i + 3) 0 ∷ []) ≡ number 256 (take 4 (drop i s))
unfolding number
half_is s i h = rw (four_bytes s i h) (omega arith)

pub quarter-is : (s : List ℕ) (i : ℕ) → i + 2 ≤ length s → from_be_bytes w16 (get_or s i 0 ∷ get_or s (i + 1) 0 ∷ []) ≡ number 256 (take 2 (drop i s))
unfolding number
quarter-is s i h =
    let two : take 2 (drop i s) ≡ get_or s i 0 ∷ get_or s (i + 1) 0 ∷ []
    = simp towards_suc (rw (drop-cons s i 0 (omega arith), drop-cons s (suc i) 0 (omega arith))) in
    rw two (omega arith)

eight-bytes : (s : List ℕ) (i : ℕ) → i + 8 ≤ length s
    → take 8 (drop i s) ≡ get_or s i 0 ∷ get_or s (i + 1) 0 ∷ get_or s (i + 2) 0 ∷ get_or s (i + 3) 0 ∷
    get_or s (i + 4) 0 ∷ get_or s (i + 5) 0 ∷ get_or s (i + 6) 0 ∷ get_or s (i + 7) 0 ∷ []
eight-bytes s i h =
    let e1 : i + 4 + 1 ≡ i + 5 = omega arith in
    let e2 : i + 4 + 2 ≡ i + 6 = omega arith in
    let e3 : i + 4 + 3 ≡ i + 7 = omega arith in
    take-add 4 4 (drop i s) ∙ rw (drop-drop 4 i s, four_bytes s i (omega arith), four_bytes s (i + 4) (omega arith), e1, e2, e3)

pub word-is : (s : List ℕ) (i : ℕ) → i + 8 ≤ length s
    → from_be_bytes w64 (get_or s i 0 ∷ get_or s (i + 1) 0 ∷ get_or s (i + 2) 0 ∷ get_or s (i + 3) 0 ∷
    get_or s (i + 4) 0 ∷ get_or s (i + 5) 0 ∷ get_or s (i + 6) 0 ∷ get_or s (i + 7) 0 ∷ []) ≡ number 256 (take 8 (drop i s))
unfolding number
word-is s i h = rw (eight-bytes s i h) (omega arith)

-- the w lowest of 64 set bits
pub mask : (w : ℕ) → w ≤ 64 → (2 ^ 64 - 1) / 2 ^ (64 - w) ≡ 2 ^ w - 1
mask w h =
    let e : w + (64 - w) ≡ 64 = omega arith in
    ap (λ (x : ℕ). (2 ^ x - 1) / 2 ^ (64 - w)) (sym e) ∙ rw (ones_split w (64 - w)) (high (2 ^ w - 1) (64 - w) (ones_lt (64 - w)))

-- field k of n lies within their bytes
pub field-there : (w n k : ℕ) (s : List ℕ) → k < n → bytes_for (n * w) ≤ length s → w * (k + 1) ≤ 8 * length s
field-there w n k s h l = omega (arith, mul-le-mul_right w h)

-- each width of the table is one that the window can take
pub table-width : (w : ℕ) → IsWidth w → Width w
table-width w h = (h.pos, h.le, h.window)
