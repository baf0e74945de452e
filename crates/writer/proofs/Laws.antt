-- The laws that the writer's loops and tests cite. Assumes nothing.
use Rattle.format.proofs.Common.{◌≡◌, refl, sym, ap, ◌∙◌, ℕ, ◌+◌, ◌*◌, ◌/◌, ◌^◌, ◌<◌, ◌≤◌, div-lt_iff_lt-mul, add-one, dec_lt, arith, Bool}
use Rattle.format.proofs.Common.{◌&&◌, and-true, and-false, List, [], ◌∷◌, map, ◌↔◌, ltb, eqb, ℤ, pos, length, get_or, drop, take}
use Rattle.format.proofs.Common.{List·getD-map, slice, slice-cons, slice_empty, get_or-drop, pow_pos, lt-ltb, le-ltb, eq-eqb, ne_eqb}
use Rattle.format.proofs.Common.{negsuc, w64, of_z, to_z, SFits, to_z-of_z}
use Rattle.std.specs.Prelude.{max}
use Rattle.std.proofs.Math.Seq.{take-length}
use Rattle.format.specs.Rows.{as_u64}
use Rattle.format.specs.Writing.{minus, steps_of, base_delta, every}
use Rattle.writer.specs.PatchedBase.{Largest}

-- ---- a loop that looks for the largest of n numbers: a bound holds for all exactly if it holds for the largest so far and for those that are left

pub record Most (l : List ℕ) (n most i : ℕ) : Type 0 where
  pub bounds : (b : ℕ) → 1 ≤ b → every (λ x. ltb x b) (take n l) ≡ ltb most b && every (λ x. ltb x b) (slice i n l)

pub most-first : (l : List ℕ) (n : ℕ) → Most l n 0 0
most-first l n = record { bounds = λ b h. rw (lt-ltb 0 b h) }

module _ (l : List ℕ) (n most i : ℕ) (m : Most l n most i) where
  -- one more number: the larger of two is below a bound exactly if both are
  larger : (x b : ℕ) (t : Bool) → most ≤ x → ltb most b && (ltb x b && t) ≡ ltb x b && t
  larger x b t h = by (dec_lt x b)
    where
      by : Dec (x < b) → ltb most b && (ltb x b && t) ≡ ltb x b && t
      by (yes k) = rw (lt-ltb most b (omega arith))
      by (no k) = rw (le-ltb x b (omega arith)) (and-false (ltb most b))

  smaller : (x b : ℕ) (t : Bool) → x ≤ most → ltb most b && (ltb x b && t) ≡ ltb most b && t
  smaller x b t h = by (dec_lt most b)
    where
      by : Dec (most < b) → ltb most b && (ltb x b && t) ≡ ltb most b && t
      by (yes k) = rw (lt-ltb x b (omega arith))
      by (no k) = rw (le-ltb most b (omega arith))

  split : i < n → n ≤ length l → (b : ℕ) → 1 ≤ b
      → every (λ x. ltb x b) (take n l) ≡ ltb most b && (ltb (get_or l i 0) b && every (λ x. ltb x b) (slice (i + 1) n l))
  unfolding every
  split h k b p = m.bounds b p ∙ rw (add-one, slice-cons i n l 0 h k)

  most-next : i < n → n ≤ length l → most ≤ get_or l i 0 → Most l n (get_or l i 0) (i + 1)
  most-next h k g = record { bounds = λ b p. split h k b p ∙ larger (get_or l i 0) b _ g }

  most-same : i < n → n ≤ length l → get_or l i 0 ≤ most → Most l n most (i + 1)
  most-same h k g = record { bounds = λ b p. split h k b p ∙ smaller (get_or l i 0) b _ g }

  pub most-max : i < n → n ≤ length l → Most l n (max most (get_or l i 0)) (i + 1)
  most-max h k = by (dec_lt most (get_or l i 0))
    where
      by : Dec (most < get_or l i 0) → Most l n (max most (get_or l i 0)) (i + 1)
      by (yes g) = let e : max most (get_or l i 0) ≡ get_or l i 0 = omega arith in rw e (most-next h k (omega arith))
      by (no g) = let e : max most (get_or l i 0) ≡ most = omega arith in rw e (most-same h k (omega arith))

  most-all : i ≤ n → n ≤ i → Largest (take n l) most
  unfolding every
  most-all h k =
      let e : i ≡ n = omega arith in
      record { bounds = λ b p. m.bounds b p ∙ rw (e, slice_empty n l) (and-true (ltb most b)) }

pub most-of : (l : List ℕ) (most i : ℕ) → Most l (length l) most i → i ≤ length l → length l ≤ i → Largest l most
most-of l most i m h k = rw take-length at (most-all l (length l) most i m h k)

-- ---- bits that a shift leaves

pub shifted-out : (x bits : ℕ) → eqb (x / 2 ^ bits) 0 ≡ ltb x (2 ^ bits)
shifted-out x bits = by (dec_lt x (2 ^ bits))
  where
    iff : (x / 2 ^ bits < 1) ↔ (x < 1 * 2 ^ bits)
    iff = div-lt_iff_lt-mul (pow_pos bits)

    by : Dec (x < 2 ^ bits) → eqb (x / 2 ^ bits) 0 ≡ ltb x (2 ^ bits)
    by (yes h) = rw (lt-ltb x (2 ^ bits) h) (eq-eqb (x / 2 ^ bits) 0 (omega (arith, iff.1 (omega arith))))
    by (no h) = rw (le-ltb x (2 ^ bits) (omega arith)) (ne_eqb (x / 2 ^ bits) 0 (λ e. h (omega (arith, iff.0 (omega arith)))))

-- ---- rows as patterns, and the base delta

pub pattern-at : (rows : List ℤ) (i : ℕ) → get_or (map as_u64 rows) i 0 ≡ as_u64 (get_or rows i (pos 0))
pattern-at rows i = List·getD-map as_u64 rows i (pos 0)

pub bits-of : (z : ℤ) → of_z w64 z ≡ as_u64 z
bits-of (pos n) = refl
bits-of (negsuc k) = omega arith

-- the row at a place, cast to its bits
pub bits_at : (rows : List ℤ) (i : ℕ) → SFits w64 (get_or rows i (pos 0))
    → of_z w64 (to_z w64 (of_z w64 (get_or rows i (pos 0)))) ≡ get_or (map as_u64 rows) i 0
bits_at rows i f = rw (to_z-of_z {w = w64} f) (bits-of (get_or rows i (pos 0)) ∙ sym (pattern-at rows i))

pub base-none : (l : List ℕ) → length l < 2 → 0 ≡ base_delta l
unfolding base_delta steps_of
base-none [] h = refl
base-none (x ∷ []) h = refl
base-none (x ∷ y ∷ l) h = absurd (omega arith)

pub base-some : (l : List ℕ) → 2 ≤ length l → minus (get_or l 1 0) (get_or l 0 0) ≡ base_delta l
unfolding base_delta steps_of
base-some [] h = absurd (omega arith)
base-some (x ∷ []) h = absurd (omega arith)
base-some (x ∷ y ∷ l) h = refl

-- a list that still stands from i on has what it had there
pub same_at : (l l₀ : List ℕ) (i : ℕ) → drop i l ≡ drop i l₀ → get_or l i 0 ≡ get_or l₀ i 0
same_at l l₀ i e =
    let z : i + 0 ≡ i = omega arith in
    rw z at (sym (get_or-drop i l 0 0) ∙ ap (λ (t : List ℕ). get_or t 0 0) e ∙ get_or-drop i l₀ 0 0)
