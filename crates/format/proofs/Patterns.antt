-- Numbers below 2^64 and the i64 with the same bits stand for each other, and so do rows and their zigzag numbers.
-- Assumes nothing.
use Rattle.format.proofs.Common.{◌≡◌, refl, ap, ◌∙◌, ℕ, suc, ◌+◌, ◌-◌, ◌*◌, ◌/◌, ◌%◌, ◌^◌, ◌<◌, ◌≤◌, arith, dec_lt, ℕ_discrete}
use Rattle.format.proofs.Common.{mod-eq_of_lt, Bool, true, false, ℤ, pos, negsuc, ltb, w64, SFits, to_z, lt-ltb, le-ltb, eq-eqb}
use Rattle.format.proofs.Common.{ne_eqb}
use mir.Val.{sel}
use Rattle.format.specs.Fields.{pick, two64, negative, zigzag, zigzagged}
use Rattle.format.specs.Rows.{as_i64, as_u64}

-- ---- the i64 with the same bits

pub as-low : (b : ℕ) → b < 2 ^ 63 → as_i64 b ≡ pos b
unfolding as_i64
as-low b h = simp (lt-ltb b (2 ^ 63) h)

pub as_high : (b : ℕ) → 2 ^ 63 ≤ b → as_i64 b ≡ negsuc (two64 - 1 - b)
unfolding as_i64
as_high b h = simp (le-ltb b (2 ^ 63) h)

-- the machine's own reading of 64 bits as a signed number
pub as-to_z : (b : ℕ) → b < two64 → to_z w64 b ≡ as_i64 b
unfolding as_i64
as-to_z b h =
    let e : two64 - suc b ≡ two64 - 1 - b = omega arith in
    rw e (by (ltb b (2 ^ 63)))
  where
    by : (t : Bool) → sel t (pos b) (negsuc (two64 - 1 - b)) ≡ pick t (pos b) (negsuc (two64 - 1 - b))
    by true = refl
    by false = refl

pub as-back : (b : ℕ) → b < two64 → as_u64 (as_i64 b) ≡ b
as-back b h = by (dec_lt b (2 ^ 63))
  where
    by : Dec (b < 2 ^ 63) → as_u64 (as_i64 b) ≡ b
    by (yes l) = rw (as-low b l)
    by (no l) = rw (as_high b (omega arith)) (omega arith)

pub as-forth : (z : ℤ) → SFits w64 z → as_i64 (as_u64 z) ≡ z
as-forth (pos n) f = as-low n f.sfits
as-forth (negsuc n) f = as_high (two64 - 1 - n) (omega (arith, f.sfits)) ∙ ap negsuc (omega (arith, f.sfits))

pub as-lt : (z : ℤ) → SFits w64 z → as_u64 z < two64
as-lt (pos n) f = omega (arith, f.sfits)
as-lt (negsuc n) f = omega (arith, f.sfits)

-- ---- zigzag

pub zigzag-even : (u : ℕ) → u % 2 ≡ 0 → zigzag u ≡ u / 2
unfolding zigzag
zigzag-even u h = simp (eq-eqb (u % 2) 0 h)

-- minus the half, rounded up, is the half's bits turned over
pub zigzag-odd : (u : ℕ) → (u % 2 ≡ 0 → ⊥) → u < two64 → zigzag u ≡ two64 - 1 - u / 2
unfolding zigzag negative
zigzag-odd u h l =
    let e : two64 - (u + 1) / 2 ≡ two64 - 1 - u / 2 = omega arith in
    simp (ne_eqb (u % 2) 0 h, e, mod-eq_of_lt {n = two64 - 1 - u / 2} {m = two64} (omega arith))

pub zigzagged-low : (b : ℕ) → b < 2 ^ 63 → zigzagged b ≡ 2 * b
unfolding zigzagged
zigzagged-low b h = simp (lt-ltb b (2 ^ 63) h)

pub zigzagged-high : (b : ℕ) → 2 ^ 63 ≤ b → zigzagged b ≡ 2 * (two64 - 1 - b) + 1
unfolding zigzagged
zigzagged-high b h = simp (le-ltb b (2 ^ 63) h)

-- each undoes the other
pub zigzag-zigzagged : (b : ℕ) → b < two64 → zigzag (zigzagged b) ≡ b
zigzag-zigzagged b h = by (dec_lt b (2 ^ 63))
  where
    by : Dec (b < 2 ^ 63) → zigzag (zigzagged b) ≡ b
    by (yes l) = rw (zigzagged-low b l, zigzag-even (2 * b) (omega arith)) (omega arith)
    by (no l) =
        rw (zigzagged-high b (omega arith), zigzag-odd (2 * (two64 - 1 - b) + 1) (λ e. omega arith) (omega arith)) (omega arith)

pub zigzagged-zigzag : (u : ℕ) → u < two64 → zigzagged (zigzag u) ≡ u
zigzagged-zigzag u h = by (ℕ_discrete (u % 2) 0)
  where
    by : Dec (u % 2 ≡ 0) → zigzagged (zigzag u) ≡ u
    by (yes e) = rw (zigzag-even u e, zigzagged-low (u / 2) (omega arith)) (omega arith)
    by (no e) = rw (zigzag-odd u e h, zigzagged-high (two64 - 1 - u / 2) (omega arith)) (omega arith)

pub zigzag-lt : (u : ℕ) → u < two64 → zigzag u < two64
zigzag-lt u h = by (ℕ_discrete (u % 2) 0)
  where
    by : Dec (u % 2 ≡ 0) → zigzag u < two64
    by (yes e) = rw (zigzag-even u e) (omega arith)
    by (no e) = rw (zigzag-odd u e h) (omega arith)

pub zigzagged-lt : (b : ℕ) → b < two64 → zigzagged b < two64
zigzagged-lt b h = by (dec_lt b (2 ^ 63))
  where
    by : Dec (b < 2 ^ 63) → zigzagged b < two64
    by (yes l) = rw (zigzagged-low b l) (omega arith)
    by (no l) = rw (zigzagged-high b (omega arith)) (omega arith)
