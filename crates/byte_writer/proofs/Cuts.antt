-- How a stretch is cut: how many bytes its first repeat has, and whether a byte is left alone. Each case of the two tests by itself.
-- Assumes nothing.
use Rattle.format.proofs.Common.{◌≡◌, refl, ℕ, ◌+◌, ◌%◌, ◌<◌, ◌≤◌, min, arith, dec_lt, Bool, true, false, List, length, drop, length-drop}
use Rattle.format.proofs.Common.{drop-drop, eqb, eqb-true, eqb-false, ne_eqb}
use Rattle.byte_writer.specs.Choice.{stretch, before, repeated, alone, in_literals}
use Rattle.byte_writer.proofs.Stretches.{stretch-le, before-le}

pub repeated-few : (n : ℕ) → n ≤ 130 → repeated n ≡ n
unfolding repeated
repeated-few n h = rw (ne_eqb n 132 (λ e. omega arith)) (omega arith)

pub repeated-many : (n : ℕ) → 130 ≤ n → (n ≡ 132 → ⊥) → repeated n ≡ 130
unfolding repeated
repeated-many n h e = rw (ne_eqb n 132 e) (omega arith)

pub repeated-132 : (n : ℕ) → n ≡ 132 → repeated n ≡ 129
unfolding repeated
repeated-132 n e = rw e refl

-- a stretch of 133 is begun as any longer one is
pub repeated-min : (n : ℕ) → repeated (min 133 n) ≡ repeated n
repeated-min n = by (dec_lt n 134)
  where
    by : Dec (n < 134) → repeated (min 133 n) ≡ repeated n
    by (yes h) = let e : min 133 n ≡ n = omega arith in rw e
    by (no h) =
        let e : min 133 n ≡ 133 = omega arith in
        rw (e, repeated-many n (omega arith) (λ q. omega arith)) (repeated-many 133 (omega arith) (λ q. omega arith))

pub record Repeated (n : ℕ) : Type 0 where
  pub few : 3 ≤ repeated n
  pub many : repeated n ≤ 130
  pub inside : repeated n ≤ n

pub repeated-is : (n : ℕ) → 3 ≤ n → Repeated n
repeated-is n h = by (dec_lt n 131) (eqb n 132) refl
  where
    by : Dec (n < 131) → (t : Bool) → eqb n 132 ≡ t → Repeated n
    by (yes l) t e = let r = repeated-few n (omega arith) in record { few = omega arith; many = omega arith; inside = omega arith }
    by (no l) true e =
        let r = repeated-132 n (eqb-true n 132 e) in
        record { few = omega arith; many = omega arith; inside = omega arith }
    by (no l) false e =
        let r = repeated-many n (omega arith) (eqb-false n 132 e) in
        record { few = omega arith; many = omega arith; inside = omega arith }

pub alone-one : (n : ℕ) → n % 130 ≡ 1 → alone n ≡ 1
unfolding alone
alone-one n h = rw h

pub alone-none : (n : ℕ) → (n % 130 ≡ 1 → ⊥) → alone n ≡ 0
unfolding alone
alone-none n h = rw (ne_eqb (n % 130) 1 h)

pub data Alone (n : ℕ) : Type 0 where
  one : n % 130 ≡ 1 → alone n ≡ 1 → Alone n
  none : (n % 130 ≡ 1 → ⊥) → alone n ≡ 0 → Alone n

pub is-alone : (n : ℕ) → Alone n
is-alone n = by (eqb (n % 130) 1) refl
  where
    by : (t : Bool) → eqb (n % 130) 1 ≡ t → Alone n
    by true e = one (eqb-true _ _ e) (alone-one n (eqb-true _ _ e))
    by false e = none (eqb-false _ _ e) (alone-none n (eqb-false _ _ e))

pub alone-le : (n : ℕ) → (alone n ≤ 1) × (alone n ≤ n)
alone-le n = by (is-alone n)
  where
    by : Alone n → (alone n ≤ 1) × (alone n ≤ n)
    by (one h e) = (omega arith, omega arith)
    by (none h e) = (omega arith, omega arith)

pub alone-end : (bs : List ℕ) (at : ℕ) → length bs ≤ at → alone (stretch (drop at bs)) ≡ 0
alone-end bs at h =
    let z : stretch (drop at bs) ≤ 0 = omega (arith, stretch-le (drop at bs), length-drop at bs) in
    omega (arith, (alone-le (stretch (drop at bs))).1)

-- ---- what goes into literals

pub literals-are : (bs : List ℕ) → in_literals bs ≡ before bs + alone (stretch (drop (before bs) bs))
unfolding in_literals
literals-are bs = refl

pub literals-le : (bs : List ℕ) → in_literals bs ≤ length bs
literals-le bs =
    let rest = drop (before bs) bs in
    omega (arith, literals-are bs, before-le bs, (alone-le (stretch rest)).1, stretch-le rest, length-drop (before bs) bs)

-- at a place of some bytes: counted up to 128, and what stands there then
module _ (bs : List ℕ) (at k : ℕ) (e : k ≡ min 128 (before (drop at bs))) where
  pub literals-full : 128 ≤ k → k ≡ min 128 (in_literals (drop at bs))
  literals-full h = omega (arith, literals-are (drop at bs))

  pub literals-then : k < 128 → k + alone (stretch (drop (at + k) bs)) ≡ min 128 (in_literals (drop at bs))
  literals-then h =
      let z : before (drop at bs) ≡ k = omega arith in
      let s = rw (z, drop-drop k at bs) at (literals-are (drop at bs)) in
      omega (arith, s, (alone-le (stretch (drop (at + k) bs))).0)
