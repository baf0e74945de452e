-- The size of the whole number that two words stand for, and its last decimal digit. Assumes nothing.
use Rattle.std.proofs.Common.{◌≡◌, ℕ, suc, ◌+◌, ◌*◌, ◌/◌, ◌%◌, ◌^◌, ◌<◌, ◌≤◌, leb, pos, negsuc, nat_abs, sym, refl, ap, ◌∙◌, mod-lt, zero-lt-suc, div-add-mod', arith, le-ltb, lt-ltb, le-leb}
use native.Mathlib.Decide.{dec_lt}
use lib.Arith.{digits_div, digits_mod}
use borrow.Author.Tests.{lt-leb}
use Rattle.format.specs.Fields.{two64}
use Rattle.tally.specs.declared.sums.Wide.{Wide}
use Rattle.tally.specs.Wide.{turned, wide_value, add_wide, size_of, is_negative, IsTenth}

-- ---- the sign and the size

module _ (w : Wide) where
  value-above : w.high < 2 ^ 63 → wide_value w ≡ pos (size_of w)
  unfolding wide_value
  value-above h = rw (lt-ltb w.high (2 ^ 63) h)

  value-below : 2 ^ 63 ≤ w.high → wide_value w ≡ negsuc (turned w.high * two64 + turned w.low)
  unfolding wide_value
  value-below h = rw (le-ltb w.high (2 ^ 63) h)

  pub sign-is : leb (2 ^ 63) w.high ≡ is_negative (wide_value w)
  sign-is = by (dec_lt w.high (2 ^ 63))
    where
      by : Dec (w.high < 2 ^ 63) → leb (2 ^ 63) w.high ≡ is_negative (wide_value w)
      by (yes l) = rw (lt-leb (2 ^ 63) w.high l, value-above l)
      by (no l) = rw (le-leb (2 ^ 63) w.high (omega arith), value-below (omega arith))

  pub size_above : w.high < 2 ^ 63 → size_of w ≡ nat_abs (wide_value w)
  size_above h = sym (ap nat_abs (value-above h))

-- one more, where the high word has room for what the low one carries
one_more : (h l : ℕ) → h < 2 ^ 63 → l < two64 → (h + 0 + (l + 1) / two64) % two64 * two64 + (l + 1) % two64 ≡ suc (h * two64 + l)
one_more h l k m = by (dec_lt (l + 1) two64)
  where
    by : Dec (l + 1 < two64) → (h + 0 + (l + 1) / two64) % two64 * two64 + (l + 1) % two64 ≡ suc (h * two64 + l)
    by (yes s) =
        let q : (l + 1) / two64 ≡ 0 = omega arith in
        let r : (l + 1) % two64 ≡ l + 1 = omega arith in
        let e : (h + 0 + 0) % two64 ≡ h = omega arith in
        rw (q, r, e) (omega arith)
    by (no s) =
        let q : (l + 1) / two64 ≡ 1 = omega arith in
        let r : (l + 1) % two64 ≡ 0 = omega arith in
        let e : (h + 0 + 1) % two64 ≡ h + 1 = omega arith in
        rw (q, r, e) (omega arith)

pub size_below : (w : Wide) → w.high < two64 → w.low < two64 → 2 ^ 63 ≤ w.high
    → size_of (add_wide (record { high = turned w.high; low = turned w.low }) (record { high = 0; low = 1 })) ≡ nat_abs (wide_value w)
size_below w k m h = one_more (turned w.high) (turned w.low) (omega arith) (omega arith) ∙ sym (ap nat_abs (value-below w h))

-- ---- the last digit

halves-fit : (r a : ℕ) → r < 10 → a < 4294967296 → r * 4294967296 + a < two64
halves-fit r a h k = omega arith

upper-half : (l : ℕ) → l < two64 → l / 4294967296 < 4294967296
upper-half l h = omega arith

pub upper_fits : (h l : ℕ) → l < two64 → h % 10 * 4294967296 + l / 4294967296 < two64
upper_fits h l k = halves-fit (h % 10) (l / 4294967296) (mod-lt h (zero-lt-suc 9)) (upper-half l k)

long-division : (h q r l a b u s t v y z : ℕ) → q * 10 + r ≡ h → a * 2 ^ 32 + b ≡ l → u ≡ r * 2 ^ 32 + a → s * 10 + t ≡ u → v ≡ t * 2 ^ 32 + b → y * 10 + z ≡ v
    → h * two64 + l ≡ (q * two64 + (s * 2 ^ 32 + y)) * 10 + z
long-division h q r l a b u s t v y z e₁ e₂ e₃ e₄ e₅ e₆ = omega arith

pub tenth-is : (h l : ℕ)
    → (let u = h % 10 * 4294967296 + l / 4294967296 in let v = u % 10 * 4294967296 + l % 4294967296 in
    IsTenth (h * two64 + l) (h / 10 * two64 + (u / 10 * 4294967296 + v / 10)) (v % 10))
tenth-is h l =
    let u = h % 10 * 4294967296 + l / 4294967296 in
    let v = u % 10 * 4294967296 + l % 4294967296 in
    let q = h / 10 * two64 + (u / 10 * 4294967296 + v / 10) in
    let e : h * two64 + l ≡ q * 10 + v % 10 =
    long-division h (h / 10) (h % 10) l (l / 4294967296) (l % 4294967296) u (u / 10) (u % 10) v (v / 10) (v % 10)
    (div-add-mod' h 10) (div-add-mod' l 4294967296) refl (div-add-mod' u 10) refl (div-add-mod' v 10) in
    let d : v % 10 < 10 = omega arith in
    record {
      quotient_is = sym (ap (λ (n : ℕ). n / 10) e ∙ digits_div q d);
      digit-is = sym (ap (λ (n : ℕ). n % 10) e ∙ digits_mod q d);
    }
