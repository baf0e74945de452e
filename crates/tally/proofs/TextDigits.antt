-- The digits of a number of any size: its last behind those of its tenth, and how many they are. Assumes nothing.
use Rattle.std.proofs.Common.{◌≡◌, ℕ, zero, suc, ◌+◌, ◌-◌, ◌*◌, ◌/◌, ◌%◌, ◌^◌, ◌<◌, ◌≤◌, Bool, true, false, ltb, List, [], ◌∷◌, ◌++◌, map, length, ℤ, pos, negsuc, nat_abs, sym, refl, ap, ◌∙◌, le_trans, lt_trans, le_refl, lt_of_le_of_lt, mod-lt, zero-lt-suc, pow-suc, div-add-mod', arith, leb→le, length-append, lt-ltb}
use native.Mathlib.Decide.{dec_lt}
use lib.Arith.{digits_lt}
use Rattle.format.specs.Fields.{pick, two64}
use Rattle.format.specs.Digits.{number}
use Rattle.format.proofs.Digits.{number-snoc}
use Rattle.format.proofs.Tests.{never}
use Rattle.tally.proofs.Taking.{code-tells}
use Rattle.text.specs.Decimal.{decimal_in, decimal}
use Rattle.tally.specs.declared.sums.Wide.{Wide}
use Rattle.tally.specs.Wide.{turned, wide_value, is_negative, size_of, IsTenth}
use Rattle.tally.specs.Text.{number_text, whole_text, written, SumText}
use Rattle.text.proofs.Texts.{decimal-more, decimal_in-length}

module _ (k x : ℕ) where
  low : x < 10 → decimal_in (suc k) x ≡ (48 + x) ∷ []
  unfolding decimal_in
  low h = rw (lt-ltb x 10 h)

-- places for more digits than a number has change nothing
enough : (k j x : ℕ) → x < 10 ^ suc k → x < suc j → decimal_in (suc k) x ≡ decimal_in (suc j) x
enough zero j x h l = low zero x (omega arith) ∙ sym (low j x (omega arith))
enough (suc k) zero x h l = low (suc k) x (omega arith) ∙ sym (low zero x (omega arith))
enough (suc k) (suc j) x h l = by (dec_lt x 10) (λ m. enough k j (x / 10) (omega (arith, pow-suc 10 (suc k))) m)
  where
    by : Dec (x < 10) → (x / 10 < suc j → decimal_in (suc k) (x / 10) ≡ decimal_in (suc j) (x / 10)) → decimal_in (suc (suc k)) x ≡ decimal_in (suc (suc j)) x
    by (yes m) ih = low (suc k) x m ∙ sym (low (suc j) x m)
    by (no m) ih = decimal-more (suc k) x (omega arith) ∙ ap (λ (ds : List ℕ). ds ++ ((48 + x % 10) ∷ [])) (ih (omega arith))
        ∙ sym (decimal-more (suc j) x (omega arith))

-- a number has fewer digits than it counts
below_power : (n : ℕ) → n < 10 ^ suc n
below_power zero = omega arith
below_power (suc n) = omega (arith, below_power n, pow-suc 10 (suc n))

-- of one word
pub one_word : (x : ℕ) → x < two64 → number_text x ≡ decimal x
unfolding number_text decimal
one_word x h = sym (enough 19 x x (omega arith) (omega arith))

-- the last digit stands behind those of the tenth
pub next-digit : (x : ℕ) → 10 ≤ x → number_text x ≡ number_text (x / 10) ++ ((48 + x % 10) ∷ [])
unfolding number_text
next-digit zero h = absurd (omega arith)
next-digit (suc x) h =
    decimal-more (suc x) (suc x) h
    ∙ ap (λ (ds : List ℕ). ds ++ ((48 + suc x % 10) ∷ [])) (sym (enough (suc x / 10) x (suc x / 10) (below_power (suc x / 10)) (omega arith)))

pub digits-longer : (x : ℕ) → 10 ≤ x → length (number_text x) ≡ length (number_text (x / 10)) + 1
digits-longer x h = ap length (next-digit x h) ∙ length-append (number_text (x / 10)) ((48 + x % 10) ∷ [])

-- ---- two words have at most 39 digits

within : (x : ℕ) → x < 10 ^ 39 → length (number_text x) ≤ 39
unfolding number_text
within x h = rw (sym (enough 38 x x h (le_refl (suc x)))) (decimal_in-length 39 x)

below_all : (h l : ℕ) → h < two64 → l < two64 → h * two64 + l < two64 * two64
below_all h l p q = digits_lt p q

pub whole_length : (w : Wide) → w.high < two64 → w.low < two64 → length (whole_text (wide_value w)) ≤ 40
unfolding wide_value whole_text
whole_length w h l = by (ltb w.high (2 ^ 63))
  where
    all : two64 * two64 < 10 ^ 39
    all = leb→le (suc (two64 * two64)) (10 ^ 39) tt

    by : (t : Bool) → length (whole_text (pick t (pos (w.high * two64 + w.low)) (negsuc (turned w.high * two64 + turned w.low)))) ≤ 40
    by true = le_trans (within _ (lt_trans (below_all w.high w.low h l) all)) (omega arith)
    by false = le-of-suc (within _ (lt_of_le_of_lt (below_all (turned w.high) (turned w.low) (omega arith) (omega arith)) all))
      where
        le-of-suc : {n : ℕ} → n ≤ 39 → suc n ≤ 40
        le-of-suc k = omega arith

-- ---- the whole number, by its sign and size

minus-text : (z : ℤ) → is_negative z ≡ true → whole_text z ≡ (45 ∷ []) ++ number_text (nat_abs z)
unfolding whole_text
minus-text (pos n) e = never (cc)
minus-text (negsuc n) e = refl

plain-text : (z : ℤ) → is_negative z ≡ false → whole_text z ≡ number_text (nat_abs z)
unfolding whole_text
plain-text (pos n) e = refl
plain-text (negsuc n) e = never (cc)

module _ (z : ℤ) (n : ℕ) (size : n ≡ nat_abs z) where
  pub with-minus : is_negative z ≡ true → whole_text z ≡ (45 ∷ []) ++ number_text n
  with-minus e = minus-text z e ∙ ap (λ (m : ℕ). (45 ∷ []) ++ number_text m) (sym size)

  pub without-minus : is_negative z ≡ false → whole_text z ≡ number_text n
  without-minus e = plain-text z e ∙ ap number_text (sym size)

-- ---- the words that are written, one digit after another

module _ (w : Wide) where
  pub low_word : w.high ≡ 0 → w.low < two64 → number_text (size_of w) ≡ decimal w.low
  low_word e l =
      let z : size_of w ≡ w.low = rw e (omega arith) in
      rw z (one_word w.low l)

  large : (w.high ≡ 0 → ⊥) → 10 ≤ size_of w
  large h = omega arith

  module _ (h : w.high ≡ 0 → ⊥) (q d : ℕ) (t : IsTenth (size_of w) q d) where
    pub tenth-less : q < size_of w
    tenth-less = rw t.quotient_is (less (size_of w) (large h))
      where
        less : (n : ℕ) → 10 ≤ n → n / 10 < n
        less n k = omega arith

    pub last-digit : number_text (size_of w) ≡ number_text q ++ ((48 + d) ∷ [])
    last-digit = next-digit (size_of w) (large h) ∙ rw (t.quotient_is, t.digit-is)

    pub one-longer : length (number_text (size_of w)) ≡ length (number_text q) + 1
    one-longer = ap length last-digit ∙ length-append (number_text q) ((48 + d) ∷ [])

    pub digit-below : d < 10
    digit-below = rw t.digit-is (mod-lt (size_of w) (zero-lt-suc 9))

-- ---- what the digits write

map_snoc : (f : ℕ → ℕ) (ds : List ℕ) (c : ℕ) → map f (ds ++ (c ∷ [])) ≡ map f ds ++ (f c ∷ [])
map_snoc f [] c = refl
map_snoc f (d ∷ ds) c = ap (λ s. f d ∷ s) (map_snoc f ds c)

written-snoc : (ds : List ℕ) (c : ℕ) → written (ds ++ ((48 + c) ∷ [])) ≡ written ds * 10 + c
written-snoc ds c =
    let e : 48 + c - 48 ≡ c = omega arith in
    ap (number 10) (map_snoc (λ (c : ℕ). c - 48) ds (48 + c)) ∙ number-snoc 10 (map (λ c. c - 48) ds) (48 + c - 48) ∙ ap (λ (n : ℕ). written ds * 10 + n) e

write_low : (k x : ℕ) → x < 10 → written (decimal_in (suc k) x) ≡ x
unfolding number
write_low k x h = rw (low k x h) (omega arith)

write : (k x : ℕ) → x < 10 ^ suc k → written (decimal_in (suc k) x) ≡ x
write zero x h = write_low zero x (omega arith)
write (suc k) x h = by (dec_lt x 10) (write k (x / 10) (omega (arith, pow-suc 10 (suc k))))
  where
    by : Dec (x < 10) → written (decimal_in (suc k) (x / 10)) ≡ x / 10 → written (decimal_in (suc (suc k)) x) ≡ x
    by (yes m) ih = write_low (suc k) x m
    by (no m) ih = rw (decimal-more (suc k) x (omega arith)) (written-snoc (decimal_in (suc k) (x / 10)) (x % 10) ∙ rw ih (div-add-mod' x 10))

pub sum-text : SumText
unfolding number_text
sum-text = record {
  sum-text = λ ls f w. ap whole_text (code-tells ls f w).the_sum;
  digits-write = λ x. write x x (below_power x);
}
