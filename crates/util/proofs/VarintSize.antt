-- The shortest varint of a number has a byte for each seven of its bits. Assumes nothing.
use Rattle.format.proofs.Common.{◌≡◌, ap, ◌∙◌, ℕ, zero, suc, ◌+◌, ◌-◌, ◌*◌, ◌/◌, ◌^◌, ◌<◌, ◌≤◌, arith, dec_lt, pow-suc, pow-zero}
use Rattle.format.proofs.Common.{pow-le-pow_right, zero-lt-suc, pow-add, length}
use Rattle.format.specs.Fields.{shortest_in}
use Rattle.format.proofs.Varints.{shortest-last, shortest-more}

-- a number has so many bits
abbrev Bits : ℕ → ℕ → Type 0
Bits x n = (1 ≤ n) × (x < 2 ^ n) × (2 ^ n ≤ 2 * x + 1)

pub bits-some : (x n : ℕ) → 1 ≤ x → x < 2 ^ n → 1 ≤ n
bits-some x zero p h = absurd (omega (arith, p, h, pow-zero 2))
bits-some x (suc n) p h = omega arith

one : (j x n : ℕ) → x < 128 → Bits x n → length (shortest_in (suc j) x) ≡ (n + 6) / 7
one j x n t h = by (dec_lt n 8)
  where
    by : Dec (n < 8) → length (shortest_in (suc j) x) ≡ (n + 6) / 7
    by (yes q) = omega (arith, h.0, ap length (shortest-last (suc j) x (omega arith) t))
    by (no q) = let q8 : 8 ≤ n = omega arith in absurd (omega (arith, h.2, pow-le-pow_right (zero-lt-suc 1) q8))

-- seven bits fewer behind each byte
rest : (x n : ℕ) → 128 ≤ x → Bits x n → (8 ≤ n) × Bits (x / 128) (n - 7)
rest x n t h = by (dec_lt n 8)
  where
    by : Dec (n < 8) → (8 ≤ n) × Bits (x / 128) (n - 7)
    by (yes q) = let q7 : n ≤ 7 = omega arith in absurd (omega (arith, h.1, pow-le-pow_right (zero-lt-suc 1) q7))
    by (no q) =
        let a : n ≡ 7 + (n - 7) = omega arith in
        let b : n - 7 ≡ suc (n - 8) = omega arith in
        let c : 2 ^ n ≡ 128 * 2 ^ (n - 7) = ap (λ (i : ℕ). 2 ^ i) a ∙ pow-add 2 7 (n - 7) in
        let d : 2 ^ (n - 7) ≡ 2 ^ (n - 8) * 2 = ap (λ (i : ℕ). 2 ^ i) b ∙ pow-suc 2 (n - 8) in
        (omega arith, (omega arith, omega (arith, c, h.1), omega (arith, c, d, h.2)))

pub sized : (k x n : ℕ) → x < 128 ^ k → Bits x n → length (shortest_in k x) ≡ (n + 6) / 7
sized zero x n l h = absurd (omega (arith, h.2, pow-zero 128, pow-le-pow_right (zero-lt-suc 1) h.0))
sized (suc j) x n l h = by (dec_lt x 128) (λ m. sized j (x / 128) m)
  where
    by : Dec (x < 128) → ((m : ℕ) → x / 128 < 128 ^ j → Bits (x / 128) m → length (shortest_in j (x / 128)) ≡ (m + 6) / 7)
        → length (shortest_in (suc j) x) ≡ (n + 6) / 7
    by (yes t) ih = one j x n t h
    by (no t) ih =
        let m = shortest-more (suc j) x (omega arith) l in
        let e : suc j - 1 ≡ j = omega arith in
        let r = rest x n (omega arith) h in
        omega (arith, r.0, ih (n - 7) (rw e at m.below) r.1, ap length (rw e at m.bytes_of))
