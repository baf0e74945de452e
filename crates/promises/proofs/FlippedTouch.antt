-- Which fields of a packed block touch a byte, and how many: a byte's bits are 8·j to 8·j+7, those of field i are i·w to i·w+w-1.
-- Assumes nothing.
use Rattle.format.proofs.Common.{◌≡◌, ap, ◌↔◌, ◌⊎◌, inl, inr, ℕ, zero, suc, ◌+◌, ◌-◌, ◌*◌, ◌/◌, ◌<◌, ◌≤◌, div-lt_iff_lt-mul, dec_lt, arith}
use native.Mathlib.Nat.{le-div_iff_mul-le, div-mul-le_self, lt-div-mul-add}
use Rattle.format.specs.Fields.{bytes_for}
use Rattle.promises.specs.FlippedByte.{Touches, Outside}

-- ---- which fields touch a byte

module _ (w i j : ℕ) (p : 1 ≤ w) where
  pub apart : Outside w i j ↔ (Touches w i j → ⊥)
  apart = (fore, back (dec_lt (i * w + w - 1) (8 * j)) (dec_lt (8 * j + 7) (i * w)))
    where
      fore : Outside w i j → Touches w i j → ⊥
      fore (inl h) (b, l, m, f, g) = omega arith
      fore (inr h) (b, l, m, f, g) = omega arith

      back : Dec (i * w + w - 1 < 8 * j) → Dec (8 * j + 7 < i * w) → (Touches w i j → ⊥) → Outside w i j
      back (yes h) d n = inl h
      back (no h) (yes g) n = inr g
      back (no h) (no g) n = absurd (n (by (dec_lt (i * w) (8 * j))))
        where
          by : Dec (i * w < 8 * j) → Touches w i j
          by (yes f) = (8 * j, omega arith, omega arith, omega arith, omega arith)
          by (no f) = (i * w, omega arith, omega arith, omega arith, omega arith)

  -- fields before the one of the byte's first bit lie before the byte, and fields after that of its last bit after it
  pub touched : (i < 8 * j / w) ⊎ ((8 * j + 7) / w < i) → Outside w i j
  touched (inl h) = inl (omega (arith, (le-div_iff_mul-le {k = w} {x = suc i} {y = 8 * j} p).0 h))
  touched (inr h) = inr ((div-lt_iff_lt-mul {k = w} {x = 8 * j + 7} {y = i} p).0 h)

-- the field of a bit of the byte touches it
touching : (w b j : ℕ) → 1 ≤ w → 8 * j ≤ b → b ≤ 8 * j + 7 → Touches w (b / w) j
touching w b j p l h = (b, div-mul-le_self b w, omega (arith, lt-div-mul-add {a = b} {b = w} p), l, h)

pub first-touching : (w j : ℕ) → 1 ≤ w → Touches w (8 * j / w) j × ((i : ℕ) → Touches w i j → 8 * j / w ≤ i)
first-touching w j p = (touching w (8 * j) j p (omega arith) (omega arith), λ i t. by i t (dec_lt i (8 * j / w)))
  where
    by : (i : ℕ) → Touches w i j → Dec (i < 8 * j / w) → 8 * j / w ≤ i
    by i t (yes h) = absurd ((apart w i j p).0 (touched w i j p (inl h)) t)
    by i t (no h) = omega arith

pub last-touching : (w j : ℕ) → 1 ≤ w → Touches w ((8 * j + 7) / w) j × ((i : ℕ) → Touches w i j → i ≤ (8 * j + 7) / w)
last-touching w j p = (touching w (8 * j + 7) j p (omega arith) (omega arith), λ i t. by i t (dec_lt ((8 * j + 7) / w) i))
  where
    by : (i : ℕ) → Touches w i j → Dec ((8 * j + 7) / w < i) → i ≤ (8 * j + 7) / w
    by i t (yes h) = absurd ((apart w i j p).0 (touched w i j p (inr h)) t)
    by i t (no h) = omega arith

pub is-there : (w n j : ℕ) → 1 ≤ w → j < bytes_for (n * w) → 8 * j / w < n
is-there w n j p h = (div-lt_iff_lt-mul {k = w} {x = 8 * j} {y = n} p).1 (omega arith)

-- ---- how many rows

quotient : (x w m : ℕ) → 1 ≤ w → m * w ≤ x → x < m * w + w → x / w ≡ m
quotient x w m p l h =
    omega (arith, (le-div_iff_mul-le {k = w} {x = m} {y = x} p).1 l, (div-lt_iff_lt-mul {k = w} {x = x} {y = suc m} p).1 (omega arith))

pub at_most : (w j : ℕ) → 1 ≤ w → (8 * j + 7) / w - 8 * j / w ≤ (w + 6) / w
at_most w j p =
    let c : ℕ = (w + 6) / w in
    let q : ℕ = 8 * j / w in
    let a : 8 * j < q * w + w = lt-div-mul-add p in
    let b : w + 6 < c * w + w = lt-div-mul-add p in
    omega (arith, (div-lt_iff_lt-mul {k = w} {x = 8 * j + 7} {y = q + c + 1} p).1 (omega arith))

pub in-a-byte : (w q j : ℕ) → 1 ≤ w → 8 ≡ q * w → (8 * j + 7) / w - 8 * j / w + 1 ≡ q
in-a-byte w zero j p e = absurd (omega arith)
in-a-byte w (suc r) j p e =
    let f : 8 * j ≡ suc r * w * j = ap (λ (z : ℕ). z * j) e in
    omega (
      arith,
      quotient (8 * j) w (j * suc r) p (omega arith) (omega arith),
      quotient (8 * j + 7) w (j * suc r + r) p (omega arith) (omega arith),
    )

pub whole-bytes : (w q j : ℕ) → 1 ≤ w → w ≡ q * 8 → (8 * j + 7) / w ≡ 8 * j / w
whole-bytes w q j p e =
    let m : ℕ = 8 * j / w in
    let a : m * w ≤ 8 * j = div-mul-le_self (8 * j) w in
    let b : 8 * j < m * w + w = lt-div-mul-add p in
    let c : m * w ≡ m * (q * 8) = ap (λ (z : ℕ). m * z) e in
    quotient (8 * j + 7) w m p (omega arith) (omega arith)
