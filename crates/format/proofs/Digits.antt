-- `number` and `digits` are inverse to each other, in any base; and what a loop over digits, or over packed fields, needs of them.
-- Assumes nothing.
use Rattle.format.proofs.Common.{◌≡◌, refl, ap, ◌∙◌, ℕ, zero, suc, ◌+◌, ◌*◌, ◌/◌, ◌%◌, ◌^◌, ◌<◌, ◌-◌, one-le-pow, pow-zero, mod-lt}
use Rattle.format.proofs.Common.{div-one, zero-lt-suc, zero-mul, suc-mul, pow-suc, one-mul, mod-eq_of_lt, zero-add, suc-add}
use Rattle.format.proofs.Common.{add_comm, mul_assoc, mul-add-div_right, mul-add-mod_self_right, arith, List, [], ◌∷◌, ◌++◌}
use Rattle.format.proofs.Common.{append_assoc, length, get_or, take, length-append, take-suc, pow-add}
use native.Mathlib.Nat.{pow-succ', mod-one, div-div-eq-div-mul}
use lib.Arith.{digits_lt, digits_div, mod-mul}
use Rattle.format.specs.Digits.{AllBelow, number, digits, spread}

-- ---- numbers

pub number_lt : (b : ℕ) (ds : List ℕ) → AllBelow b ds → number b ds < b ^ length ds
unfolding number
number_lt b [] h = rw pow-zero (zero-lt-suc 0)
number_lt b (d ∷ ds) h = rw pow-succ' (digits_lt h.0 (number_lt b ds h.1))

-- a number of two lists of digits, and one digit more at the end (the step of a loop that reads)
pub number_append : (b : ℕ) (s t : List ℕ) → number b (s ++ t) ≡ number b s * b ^ length t + number b t
unfolding number
number_append b [] t = omega arith
number_append b (d ∷ s) t = rw (length-append s t, pow-add b (length s) (length t), number_append b s t) (omega arith)

pub number-snoc : (b : ℕ) (s : List ℕ) (d : ℕ) → number b (s ++ (d ∷ [])) ≡ number b s * b + d
unfolding number
number-snoc b s d =
    let e : b ^ 1 ≡ b = pow-suc b 0 ∙ rw (pow-zero b) (one-mul b) in
    rw (number_append b s (d ∷ []), e, pow-zero b) (omega arith)

-- one more of a list's digits: the turn of a loop that reads a number
pub number-take-suc : (b : ℕ) (s : List ℕ) (i : ℕ) → i < length s → number b (take (suc i) s) ≡ number b (take i s) * b + get_or s i 0
number-take-suc b s i h = ap (number b) (take-suc s i 0 h) ∙ number-snoc b (take i s) (get_or s i 0)

-- ---- digits

pub length_digits : (b n x : ℕ) → length (digits b n x) ≡ n
unfolding digits
length_digits b zero x = refl
length_digits b (suc n) x = ap suc (length_digits b n x)

-- the lowest digit stands last
pub digits-snoc : (b n x : ℕ) → digits b (suc n) x ≡ digits b n (x / b) ++ (x % b ∷ [])
unfolding digits
digits-snoc b zero x = simp (pow-zero, div-one)
digits-snoc b (suc n) x = rw (digits-snoc b n x, div-div-eq-div-mul, ← pow-succ')

-- the digits above the n lowest, and those
pub digits-add : (b m n x : ℕ) → digits b (m + n) x ≡ digits b m (x / b ^ n) ++ digits b n x
unfolding digits
digits-add b zero n x = rw zero-add
digits-add b (suc m) n x = rw (suc-add, digits-add b m n x, div-div-eq-div-mul, ← pow-add, add_comm m n)

-- digit i of n
pub getD-digits : (b n x i : ℕ) → i < n → get_or (digits b n x) i 0 ≡ x / b ^ (n - 1 - i) % b
unfolding digits
getD-digits b zero x i h = absurd (omega arith)
getD-digits b (suc n) x zero h =
    let e : suc n - 1 - 0 ≡ n = omega arith in
    rw e
getD-digits b (suc n) x (suc i) h =
    let e : suc n - 1 - suc i ≡ n - 1 - i = omega arith in
    rw e (getD-digits b n x i (omega (arith, h)))

module _ (b : ℕ) (pos : 0 < b) where
  pub digits-below : (n x : ℕ) → AllBelow b (digits b n x)
  unfolding digits
  digits-below zero x = tt
  digits-below (suc n) x = (mod-lt _ pos, digits-below n x)

  -- n digits hold a number modulo b^n
  pub number-low : (n x : ℕ) → number b (digits b n x) ≡ x % b ^ n
  unfolding number digits
  number-low zero x = simp (pow-zero, mod-one)
  number-low (suc n) x = rw (length_digits b n x, number-low n x, pow-succ', mod-mul x pos (one-le-pow n b pos))

  pub number_digits : (n x : ℕ) → x < b ^ n → number b (digits b n x) ≡ x
  number_digits n x h = number-low n x ∙ mod-eq_of_lt h

  -- what stands above the n lowest digits does not change them
  pub digits-high : (n q x : ℕ) → digits b n (q * b ^ n + x) ≡ digits b n x
  unfolding digits
  digits-high zero q x = refl
  digits-high (suc n) q x =
      rw (pow-succ', ← mul_assoc, mul-add-div_right (one-le-pow n b pos) (q * b) x, mul-add-mod_self_right, digits-high n (q * b) x)

  -- m digits and then n digits
  pub digits-split : (m n q r : ℕ) → r < b ^ n → digits b (m + n) (q * b ^ n + r) ≡ digits b m q ++ digits b n r
  digits-split m n q r h = rw (digits-add b m n, digits_div q h, digits-high n q r)

pub digits_number : (b : ℕ) (ds : List ℕ) → AllBelow b ds → digits b (length ds) (number b ds) ≡ ds
unfolding number digits
digits_number b [] h = refl
digits_number b (d ∷ ds) h =
    let l : number b ds < b ^ length ds = number_lt b ds h.1 in
    rw (digits_div d l, mod-eq_of_lt h.0, digits-high b (omega (arith, h.0)) (length ds) d (number b ds), digits_number b ds h.1)

-- ---- one number by another's digits: the bits of packed fields

-- a power of a power
pub pow-pow : (b m n : ℕ) → (b ^ m) ^ n ≡ b ^ (n * m)
pow-pow b m zero = rw (pow-zero, zero-mul, pow-zero)
pow-pow b m (suc n) = rw (pow-suc, pow-pow b m n, suc-mul, pow-add)

-- a power of 256 as one of 2
pub pow-256 : (n : ℕ) → 256 ^ n ≡ 2 ^ (8 * n)
pow-256 n = pow-pow 2 8 n ∙ ap (λ (m : ℕ). 2 ^ m) (omega arith)

pub length-spread : (b w : ℕ) (s : List ℕ) → length (spread b w s) ≡ length s * w
length-spread b w [] = omega arith
length-spread b w (v ∷ s) = omega (arith, length-append (digits b w v) (spread b w s), length_digits b w v, length-spread b w s)

pub spread-append : (b w : ℕ) (s t : List ℕ) → spread b w (s ++ t) ≡ spread b w s ++ spread b w t
spread-append b w [] t = refl
spread-append b w (v ∷ s) t = rw (spread-append b w s t, append_assoc)

-- digits in base b^w are groups of w digits in base b
pub spread-number : (b w : ℕ) (vs : List ℕ) → 0 < b → AllBelow (b ^ w) vs → digits b (length vs * w) (number (b ^ w) vs) ≡ spread b w vs
unfolding number digits
spread-number b w [] pos h = rw (zero-mul w)
spread-number b w (v ∷ vs) pos h =
    let l : number (b ^ w) vs < b ^ (length vs * w) = rw (pow-pow b w (length vs)) at (number_lt (b ^ w) vs h.1) in
    rw (suc-mul (length vs) w, add_comm (length vs * w) w, pow-pow b w (length vs))
    (digits-split b pos w (length vs * w) v (number (b ^ w) vs) l ∙ ap (λ (t : List ℕ). digits b w v ++ t) (spread-number b w vs pos h.1))
