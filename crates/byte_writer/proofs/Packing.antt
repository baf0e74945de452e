-- Flags packed into bytes: their bits are the flags, and byte i holds the eight flags from 8·i on. Assumes nothing.
use Rattle.format.proofs.Common.{◌≡◌, refl, ap, ◌∙◌, ℕ, zero, suc, ◌+◌, ◌-◌, ◌*◌, ◌/◌, ◌^◌, ◌<◌, ◌≤◌, arith, add-zero, pow-suc, add-one}
use Rattle.format.proofs.Common.{Bool, true, false, List, [], ◌∷◌, map, length, get_or, take, drop, length-drop, List·getD-eq-default, eqb}
use Rattle.format.proofs.Common.{drop-drop, drop-cons, get_or-drop}
use Rattle.format.specs.Digits.{AllBelow, number, digits}
use Rattle.format.specs.Fields.{pick, bytes_for}
use Rattle.format.specs.Booleans.{bits}
use Rattle.format.proofs.Digits.{number_lt, digits_number}
use Rattle.byte_writer.specs.Flags.{bit, eight, first_byte, bytes_in, flag_bytes, source}

pub bit_below : (f : ℕ) → bit f < 2
bit_below f = by (eqb f 0)
  where
    by : (t : Bool) → pick t 0 1 < 2
    by true = omega arith
    by false = omega arith

eight-below : (fs : List ℕ) → AllBelow 2 (eight fs)
eight-below fs = (at 0, (at 1, (at 2, (at 3, (at 4, (at 5, (at 6, (at 7, tt))))))))
  where
    at : (i : ℕ) → bit (get_or fs i 0) < 2
    at i = bit_below (get_or fs i 0)

-- the byte's bits are the eight
byte-bits : (fs : List ℕ) → digits 2 8 (first_byte fs) ≡ eight fs
unfolding first_byte
byte-bits fs = digits_number 2 (eight fs) (eight-below fs)

pub first_below : (fs : List ℕ) → first_byte fs < 256
unfolding first_byte
first_below fs = number_lt 2 (eight fs) (eight-below fs)

in-below : (m : ℕ) (fs : List ℕ) → AllBelow 256 (bytes_in m fs)
unfolding bytes_in
in-below zero fs = tt
in-below (suc m) fs = (first_below fs, in-below m (drop 8 fs))

length-in : (m : ℕ) (fs : List ℕ) → length (bytes_in m fs) ≡ m
unfolding bytes_in
length-in zero fs = refl
length-in (suc m) fs = ap suc (length-in m (drop 8 fs))

-- as many bits as there are flags are the flags
bits_in : (m : ℕ) (fs : List ℕ) → length fs ≤ 8 * m → take (length fs) (bits (bytes_in m fs)) ≡ map bit fs
unfolding bytes_in
bits_in m [] h = refl
bits_in zero (a ∷ fs) h = absurd (omega arith)
bits_in (suc m) (a ∷ []) h = rw (byte-bits (a ∷ []))
bits_in (suc m) (a ∷ b ∷ []) h = rw (byte-bits (a ∷ b ∷ []))
bits_in (suc m) (a ∷ b ∷ c ∷ []) h = rw (byte-bits (a ∷ b ∷ c ∷ []))
bits_in (suc m) (a ∷ b ∷ c ∷ d ∷ []) h = rw (byte-bits (a ∷ b ∷ c ∷ d ∷ []))
bits_in (suc m) (a ∷ b ∷ c ∷ d ∷ e ∷ []) h = rw (byte-bits (a ∷ b ∷ c ∷ d ∷ e ∷ []))
bits_in (suc m) (a ∷ b ∷ c ∷ d ∷ e ∷ f ∷ []) h = rw (byte-bits (a ∷ b ∷ c ∷ d ∷ e ∷ f ∷ []))
bits_in (suc m) (a ∷ b ∷ c ∷ d ∷ e ∷ f ∷ g ∷ []) h = rw (byte-bits (a ∷ b ∷ c ∷ d ∷ e ∷ f ∷ g ∷ []))
bits_in (suc m) (a ∷ b ∷ c ∷ d ∷ e ∷ f ∷ g ∷ i ∷ fs) h =
    rw (byte-bits (a ∷ b ∷ c ∷ d ∷ e ∷ f ∷ g ∷ i ∷ fs), bits_in m fs (omega arith))

module _ (fs : List ℕ) where
  pub flags-below : AllBelow 256 (flag_bytes fs)
  unfolding flag_bytes
  flags-below = in-below (bytes_for (length fs)) fs

  pub length-flags : length (flag_bytes fs) ≡ bytes_for (length fs)
  unfolding flag_bytes
  length-flags = length-in (bytes_for (length fs)) fs

  pub flags-bits : take (length fs) (bits (flag_bytes fs)) ≡ map bit fs
  unfolding flag_bytes
  flags-bits = bits_in (bytes_for (length fs)) fs (omega arith)

-- ---- byte by byte

byte-in : (m i : ℕ) (fs : List ℕ) → i < m → get_or (bytes_in m fs) i 0 ≡ first_byte (drop (8 * i) fs)
unfolding bytes_in
byte-in zero i fs h = absurd (omega arith)
byte-in (suc m) zero fs h = refl
byte-in (suc m) (suc i) fs h =
    let e : 8 + 8 * i ≡ 8 * suc i = omega arith in
    byte-in m i (drop 8 fs) (omega arith) ∙ ap first_byte (drop-drop (8 * i) 8 fs ∙ ap (λ (k : ℕ). drop k fs) e)

pub byte-is : (i : ℕ) (fs : List ℕ) → i < length (flag_bytes fs) → get_or (flag_bytes fs) i 0 ≡ first_byte (drop (8 * i) fs)
unfolding flag_bytes
byte-is i fs h = byte-in (bytes_for (length fs)) i fs (rw length-in at h)

-- the eight flags from a place on, each at its weight
pub eight-at : (fs : List ℕ) (at : ℕ) {b0 b1 b2 b3 b4 b5 b6 b7 : ℕ}
    → b0 ≡ bit (get_or fs at 0) → b1 ≡ bit (get_or fs (at + 1) 0) → b2 ≡ bit (get_or fs (at + 2) 0) → b3 ≡ bit (get_or fs (at + 3) 0)
    → b4 ≡ bit (get_or fs (at + 4) 0) → b5 ≡ bit (get_or fs (at + 5) 0) → b6 ≡ bit (get_or fs (at + 6) 0) → b7 ≡ bit (get_or fs (at + 7) 0)
    → b0 * 128 + b1 * 64 + b2 * 32 + b3 * 16 + b4 * 8 + b5 * 4 + b6 * 2 + b7 ≡ first_byte (drop at fs)
unfolding first_byte number
eight-at fs at e0 e1 e2 e3 e4 e5 e6 e7 =
    let z : bit (get_or (drop at fs) 0 0) ≡ bit (get_or fs at 0) = rw add-zero at (here 0) in
    omega (arith, z, here 1, here 2, here 3, here 4, here 5, here 6, here 7)
  where
    here : (i : ℕ) → bit (get_or (drop at fs) i 0) ≡ bit (get_or fs (at + i) 0)
    here i = ap bit (get_or-drop at fs i 0)

-- ---- the last flags: the bits from the k-th on, at their weights

bit-of : (fs : List ℕ) (k : ℕ) → k < 8 → get_or (eight fs) k 0 ≡ bit (get_or fs k 0)
bit-of fs zero h = refl
bit-of fs (suc zero) h = refl
bit-of fs (suc (suc zero)) h = refl
bit-of fs (suc (suc (suc zero))) h = refl
bit-of fs (suc (suc (suc (suc zero)))) h = refl
bit-of fs (suc (suc (suc (suc (suc zero))))) h = refl
bit-of fs (suc (suc (suc (suc (suc (suc zero)))))) h = refl
bit-of fs (suc (suc (suc (suc (suc (suc (suc zero))))))) h = refl
bit-of fs (suc (suc (suc (suc (suc (suc (suc (suc k)))))))) h = absurd (omega arith)

pub bits-from : ℕ → List ℕ → ℕ
bits-from k fs = number 2 (drop k (eight fs))

bits-step : (fs : List ℕ) (k : ℕ) → k < 8 → bits-from k fs ≡ bit (get_or fs k 0) * 2 ^ (7 - k) + bits-from (k + 1) fs
unfolding bits-from number
bits-step fs k h =
    let n : length (drop (suc k) (eight fs)) ≡ 7 - k = length-drop (suc k) (eight fs) ∙ omega arith in
    rw (drop-cons (eight fs) k 0 h, bit-of fs k h, n, add-one)

bits-all : (fs : List ℕ) → bits-from 0 fs ≡ first_byte fs
unfolding bits-from first_byte
bits-all fs = refl

bits_none : (fs : List ℕ) → bits-from 8 fs ≡ 0
unfolding bits-from number
bits_none fs = refl

bits-end : (j k : ℕ) (fs : List ℕ) → k + j ≡ 8 → length fs ≤ k → bits-from k fs ≡ 0
bits-end zero k fs e h =
    let z : k ≡ 8 = omega arith in
    rw z (bits_none fs)
bits-end (suc j) k fs e h =
    let z : bit (get_or fs k 0) ≡ 0 = rw (List·getD-eq-default fs 0 {n = k} h) in
    rw (bits-step fs k (omega arith), z) (omega (arith, bits-end j (k + 1) fs (omega arith) (omega arith)))

-- the loop over them: k flags are in the byte, and the next one's weight is at hand
pub record Weighing (fs : List ℕ) (k byte weight : ℕ) : Type 0 where
  pub weight_is : weight ≡ 2 ^ (7 - k)
  pub so_far : byte + bits-from k fs ≡ first_byte fs

pub weighing-begins : (fs : List ℕ) → Weighing fs 0 0 128
weighing-begins fs = record { weight_is = refl; so_far = omega (arith, bits-all fs) }

module _ (fs : List ℕ) (k byte weight flag : ℕ) (h : k < 7) (e : flag ≡ get_or fs k 0) (w : Weighing fs k byte weight) where
  weighed-here : bits-from k fs ≡ bit flag * weight + bits-from (k + 1) fs
  weighed-here = rw (e, w.weight_is) (bits-step fs k (omega arith))

  pub weighing-fits : byte + bit flag * weight < 256
  weighing-fits = omega (arith, weighed-here, w.so_far, first_below fs)

  pub weighing-more : Weighing fs (k + 1) (byte + bit flag * weight) (weight / 2)
  weighing-more =
      let z : 7 - k ≡ suc (7 - (k + 1)) = omega arith in
      let p : weight ≡ 2 ^ (7 - (k + 1)) * 2 = w.weight_is ∙ ap (λ (n : ℕ). 2 ^ n) z ∙ pow-suc 2 (7 - (k + 1)) in
      record { weight_is = omega (arith, p); so_far = omega (arith, weighed-here, w.so_far) }

pub weighing-ends : (fs : List ℕ) (k byte weight : ℕ) → k ≤ 8 → length fs ≤ k → Weighing fs k byte weight → byte ≡ first_byte fs
weighing-ends fs k byte weight l h w = omega (arith, w.so_far, bits-end (8 - k) k fs (omega arith) h)

-- there are no more bytes to write than were given
pub source-le : (packed : Bool) (s : List ℕ) → length (source packed s) ≤ length s
source-le true s = omega (arith, length-flags s)
source-le false s = omega arith
