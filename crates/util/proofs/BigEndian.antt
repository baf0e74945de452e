-- What the bytes at a place write, and that the n highest-first bytes of a number are its digits.
-- Assumes nothing.
use Rattle.format.proofs.Common.{◌≡◌, ap, ◌∙◌, ℕ, ◌+◌, ◌-◌, ◌*◌, ◌%◌, ◌^◌, ◌<◌, ◌≤◌, arith, add-one, mod-eq_of_lt, lt_of_lt_of_le, zero-add}
use Rattle.format.proofs.Common.{one-mul, List, length, take, drop, get_or, length-drop, get_or-drop, length-take-le, pow_mono, pow-add, le-leb}
use Rattle.format.proofs.Common.{lt-leb}
use lib.Arith.{digits_mod}
use Rattle.format.specs.Digits.{number}
use Rattle.format.specs.Fields.{negative}
use Rattle.format.specs.Rows.{base_value}
use Rattle.format.proofs.Digits.{number_lt, number-take-suc, pow-256}
use Rattle.format.proofs.Below.{below_all, below-take, below-drop}

-- a power of 256 as one of 2
part_length : (s : List ℕ) (at i : ℕ) → at + i ≤ length s → length (take i (drop at s)) ≡ i
part_length s at i h = length-take-le i (drop at s) (rw length-drop (omega arith))

module _ (s : List ℕ) (at : ℕ) (bytes : (i : ℕ) → get_or s i 0 < 256) where
  -- i bytes are a number of 8·i bits
  pub number-bits : (i : ℕ) → at + i ≤ length s → number 256 (take i (drop at s)) < 2 ^ (8 * i)
  number-bits i h =
      rw (← (pow-256 i)) (rw (part_length s at i h) at (number_lt 256 (take i (drop at s))
      (below-take 256 i (drop at s) (below-drop 256 at s (below_all 256 s bytes)))))

  -- fewer than eight leave room for one more
  pub number-room : (i : ℕ) → i < 8 → at + i ≤ length s → number 256 (take i (drop at s)) < 2 ^ 56
  number-room i k h = lt_of_lt_of_le (number-bits i h) (pow_mono {i = 8 * i} {j = 56} (omega arith))

-- one byte more
pub number_more : (s : List ℕ) (at i : ℕ) → at + i < length s
    → number 256 (take (i + 1) (drop at s)) ≡ number 256 (take i (drop at s)) * 256 + get_or s (at + i) 0
number_more s at i h = rw (add-one, number-take-suc 256 (drop at s) i (rw length-drop (omega arith)), get_or-drop)

-- a byte's number is the byte
pub one_byte : (s : List ℕ) (i : ℕ) → i < length s → number 256 (take 1 (drop i s)) ≡ get_or s i 0
unfolding number
one_byte s i h =
    let z : i + 0 ≡ i = omega arith in
    let e = rw z at (number_more s i 0 (omega arith)) in
    e ∙ zero-add (get_or s i 0)

-- ---- the value of a base of n bytes, by the bit of its sign

module _ (n : ℕ) (h : 1 ≤ n) (g : n ≤ 8) where
  pub sign_bit : 1 * 2 ^ (8 * n - 1) % 2 ^ 64 ≡ 2 ^ (8 * n - 1)
  sign_bit =
      let l : 2 ^ (8 * n - 1) ≤ 2 ^ 63 = pow_mono {i = 8 * n - 1} {j = 63} (omega arith) in
      rw one-mul (mod-eq_of_lt {n = 2 ^ (8 * n - 1)} {m = 2 ^ 64} (omega arith))

  module _ (s : List ℕ) (at : ℕ) (f : at + n ≤ length s) where
    pub base_plus : number 256 (take n (drop at s)) < 2 ^ (8 * n - 1) → number 256 (take n (drop at s)) ≡ base_value (take n (drop at s))
    unfolding base_value
    base_plus u = rw (part_length s at n f) (simp (lt-leb (2 ^ (8 * n - 1)) (number 256 (take n (drop at s))) u))

    pub base-minus : (x : ℕ) → x ≡ number 256 (take n (drop at s)) → 2 ^ (8 * n - 1) ≤ x → x < 2 ^ (8 * n)
        → (0 + (2 ^ 64 - (x - 2 ^ (8 * n - 1)))) % 2 ^ 64 ≡ base_value (take n (drop at s))
    unfolding base_value negative
    base-minus x q u v =
        let e : 8 * n ≡ 8 * n - 1 + 1 = omega arith in
        let d : 2 ^ (8 * n) ≡ 2 ^ (8 * n - 1) * 2 = ap (λ (k : ℕ). 2 ^ k) e ∙ pow-add 2 (8 * n - 1) 1 in
        let t : 1 * 2 ^ (8 * n - 1) + (x - 2 ^ (8 * n - 1)) ≡ x = omega arith in
        let m : x % 2 ^ (8 * n - 1) ≡ x - 2 ^ (8 * n - 1) = rw t at (digits_mod 1 {m = 2 ^ (8 * n - 1)} {r = x - 2 ^ (8 * n - 1)} (omega arith)) in
        rw (part_length s at n f, ← q) (simp (le-leb (2 ^ (8 * n - 1)) x u, m, zero-add))

    -- the one number below 2^64 that makes 0 of the magnitude, modulo 2^64
    pub base_negated : (x r : ℕ) → x ≡ number 256 (take n (drop at s)) → 2 ^ (8 * n - 1) ≤ x → x < 2 ^ (8 * n) → r < 2 ^ 64
        → (r + (x - 2 ^ (8 * n - 1))) % 2 ^ 64 ≡ 0 → r ≡ base_value (take n (drop at s))
    base_negated x r q u v w e =
        let l : 2 ^ (8 * n) ≤ 2 ^ 64 = pow_mono {i = 8 * n} {j = 64} (omega arith) in
        let m : r ≡ (0 + (2 ^ 64 - (x - 2 ^ (8 * n - 1)))) % 2 ^ 64 = omega arith in
        m ∙ base-minus x q u v
