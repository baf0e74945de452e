-- The sum of at most 2^32 rows stands in two words. Assumes nothing.
use Rattle.std.proofs.Common.{◌≡◌, ℕ, suc, ◌+◌, ◌-◌, ◌*◌, ◌/◌, ◌%◌, ◌^◌, ◌<◌, ◌≤◌, List, [], ◌∷◌, length, get_or, take, ℤ, pos, negsuc, ◌+ℤ◌, nat_abs, sym, refl, ap, ◌∙◌, mod-lt, div-add-mod', add-one, arith, take-suc, pow_pos, w64, SFits, le-ltb, lt-ltb}
use native.Mathlib.Decide.{dec_lt}
use native.Mathlib.Nat.{div-le_of_le-mul}
use lib.Arith.{digits_div, digits_mod}
use lib.IntN.{sub_ℕ, +ℤ_idr}
use Rattle.format.specs.Fields.{two64}
use Rattle.tally.specs.Totals.{sum_of, limit}
use Rattle.tally.specs.declared.sums.Wide.{Wide}
use Rattle.tally.specs.Wide.{turned, wide_of, wide_value, add_wide}
use Rattle.tally.specs.Laws.{Sums}
use Rattle.tally.proofs.Combining.{sum-append}
use Rattle.tally.proofs.Sizes.{sub_low, sub-high, sum-size, row-size, bound}

-- ---- its words

-- (omega takes no number of more than 38 digits: so a number and its two words are kept apart, and the laws speak of the words)

abbrev words : ℕ → ℕ → Wide
words h l = record { high = h; low = l }

same : {v w : Wide} → v.high ≡ w.high → v.low ≡ w.low → v ≡ w
same h l = λ i. words (h i) (l i)

record Split (n q r : ℕ) : Type 0 where
  number : n ≡ q * two64 + r
  fits : r < two64

split : (n : ℕ) → Split n (n / two64) (n % two64)
split n = record { number = sym (div-add-mod' n two64); fits = mod-lt n (pow_pos 64) }

small : (n : ℕ) → n ≤ 2 ^ 95 → n / two64 ≤ 2 ^ 31
small n h = div-le_of_le-mul two64 {m = n} {n = 2 ^ 31} h

of-split : {n q r : ℕ} → Split n q r → (n / two64 ≡ q) × (n % two64 ≡ r)
of-split {n} {q} s = (ap (λ (x : ℕ). x / two64) s.number ∙ digits_div q s.fits, ap (λ (x : ℕ). x % two64) s.number ∙ digits_mod q s.fits)

pos-words : {n q r : ℕ} → Split n q r → wide_of (pos n) ≡ words q r
unfolding wide_of
pos-words s = same (of-split s).0 (of-split s).1

neg-words : {n q r : ℕ} → Split n q r → wide_of (negsuc n) ≡ words (turned q) (turned r)
unfolding wide_of
neg-words s = same (ap turned (of-split s).0) (ap turned (of-split s).1)

pos-value : (q r : ℕ) → q ≤ 2 ^ 31 → wide_value (words q r) ≡ pos (q * two64 + r)
unfolding wide_value
pos-value q r h = rw (lt-ltb q (2 ^ 63) (omega arith))

neg_value : (q r : ℕ) → q ≤ 2 ^ 31 → r < two64 → wide_value (words (turned q) (turned r)) ≡ negsuc (q * two64 + r)
unfolding wide_value
neg_value q r h l =
    let e : turned (turned q) ≡ q = omega arith in
    let f : turned (turned r) ≡ r = omega arith in
    rw (le-ltb (turned q) (2 ^ 63) (omega arith), e, f)

pub value : (z : ℤ) → nat_abs z ≤ 2 ^ 95 → wide_value (wide_of z) ≡ z
value (pos n) h =
    let s = split n in
    ap wide_value (pos-words s) ∙ pos-value (n / two64) (n % two64) (small n h) ∙ ap pos (sym s.number)
value (negsuc n) h =
    let s = split n in
    ap wide_value (neg-words s) ∙ neg_value (n / two64) (n % two64) (small n (omega arith)) s.fits ∙ ap negsuc (sym s.number)

-- ---- sums of words: c is the carry of the low words, u that of the high words, which is lost

adds : (v w : Wide) (c r u q : ℕ) → Split (v.low + w.low) c r → Split (v.high + w.high + c) u q → add_wide v w ≡ words q r
adds v w c r u q s t = same (ap (λ (x : ℕ). (v.high + w.high + x) % two64) (of-split s).0 ∙ (of-split t).1) (of-split s).1

high-below : (X Y c n : ℕ) → Y ≤ 2 ^ 31 → X + c + n ≡ Y → Split (X + turned Y + c) 0 (turned n)
high-below X Y c n h e = record { number = omega arith; fits = omega arith }

high-above : (X Y c n : ℕ) → X ≤ 2 ^ 31 → Y ≤ 2 ^ 31 → X + c ≡ Y + n + 1 → c ≤ 1 → Split (X + turned Y + c) 1 n
high-above X Y c n h l e k = record { number = omega arith; fits = omega arith }

-- a has the words X and x, b has Y and y
module _ {a X x b Y y : ℕ} (p : Split a X x) (q : Split b Y y) (h_x : X ≤ 2 ^ 31) (h_y : Y ≤ 2 ^ 31) where
  up : {c r : ℕ} → Split (x + y) c r → add_wide (words X x) (words Y y) ≡ wide_of (pos (a + b))
  up {c} {r} s =
      let h : c ≤ 1 = omega (arith, s, p.fits, q.fits) in
      adds _ _ c r 0 (X + Y + c) s (record { number = omega arith; fits = omega arith })
      ∙ sym (pos-words (record { number = omega (arith, s, p, q); fits = s.fits }))

  down : {c r : ℕ} → Split (x + y + 1) c r → add_wide (words (turned X) (turned x)) (words (turned Y) (turned y)) ≡ wide_of (negsuc (suc (a + b)))
  down {c} {r} s =
      let h : c ≤ 1 = omega (arith, s, p.fits, q.fits) in
      adds _ _ (1 - c) (turned r) 1 (turned (X + Y + c)) (record { number = omega (arith, s, p.fits, q.fits); fits = omega arith })
      (record { number = omega arith; fits = omega arith })
      ∙ sym (neg-words (record { number = omega (arith, s, p, q); fits = s.fits }))

  -- a - (b + 1), by whether it is below 0 and by the low words
  differ : add_wide (words X x) (words (turned Y) (turned y)) ≡ wide_of (sub_ℕ a (suc b))
  differ = by (dec_lt a (suc b)) (dec_lt y x)
    where
      by : Dec (a < suc b) → Dec (y < x) → add_wide (words X x) (words (turned Y) (turned y)) ≡ wide_of (sub_ℕ a (suc b))
      by (yes l) (yes m) =
          adds _ _ 1 (turned (two64 + y - x)) 0 (turned (Y - X - 1)) (record { number = omega (arith, p.fits, q.fits); fits = omega arith })
          (high-below X Y 1 (Y - X - 1) h_y (omega (arith, p, q)))
          ∙ sym (ap wide_of (sub_low a (suc b) l) ∙ neg-words {q = Y - X - 1} {r = two64 + y - x} (record { number = omega (arith, p, q); fits = omega arith }))
      by (yes l) (no m) =
          adds _ _ 0 (turned (y - x)) 0 (turned (Y - X)) (record { number = omega (arith, p.fits, q.fits); fits = omega arith })
          (high-below X Y 0 (Y - X) h_y (omega (arith, p, q)))
          ∙ sym (ap wide_of (sub_low a (suc b) l) ∙ neg-words {q = Y - X} {r = y - x} (record { number = omega (arith, p, q); fits = omega (arith, q.fits) }))
      by (no l) (yes m) =
          adds _ _ 1 (x - y - 1) 1 (X - Y) (record { number = omega (arith, p.fits, q.fits); fits = omega (arith, p.fits) })
          (high-above X Y 1 (X - Y) h_x h_y (omega (arith, p, q)) (omega arith))
          ∙ sym (ap wide_of (sub-high a (suc b) (omega arith))
          ∙ pos-words {q = X - Y} {r = x - y - 1} (record { number = omega (arith, p, q); fits = omega (arith, p.fits) }))
      by (no l) (no m) =
          adds _ _ 0 (x + turned y) 1 (X - Y - 1) (record { number = omega (arith, p.fits, q.fits); fits = omega (arith, q.fits) })
          (high-above X Y 0 (X - Y - 1) h_x h_y (omega (arith, p, q)) (omega arith))
          ∙ sym (ap wide_of (sub-high a (suc b) (omega arith))
          ∙ pos-words {q = X - Y - 1} {r = x + turned y} (record { number = omega (arith, p, q); fits = omega (arith, q.fits) }))

comm : (v w : Wide) → add_wide v w ≡ add_wide w v
comm v w =
    let e : v.high + w.high ≡ w.high + v.high = omega arith in
    let f : v.low + w.low ≡ w.low + v.low = omega arith in
    rw (e, f)

pub added : (a b : ℤ) → nat_abs a ≤ 2 ^ 95 → nat_abs b ≤ 2 ^ 95 → add_wide (wide_of a) (wide_of b) ≡ wide_of (a +ℤ b)
unfolding wide_of
added (pos a) (pos b) h l = up (split a) (split b) (small a h) (small b l) (split (a % two64 + b % two64))
added (pos a) (negsuc b) h l = differ (split a) (split b) (small a h) (small b (omega arith))
added (negsuc a) (pos b) h l = comm (wide_of (negsuc a)) (wide_of (pos b)) ∙ differ (split b) (split a) (small b l) (small a (omega arith))
added (negsuc a) (negsuc b) h l = down (split a) (split b) (small a (omega arith)) (small b (omega arith)) (split (a % two64 + b % two64 + 1))

-- an i64 row in two words
pub row_low : (n : ℕ) → n < 2 ^ 63 → wide_of (pos n) ≡ words 0 n
row_low n h = pos-words {q = 0} (record { number = omega arith; fits = omega arith })

pub row-high : (n : ℕ) → n < 2 ^ 63 → wide_of (negsuc n) ≡ words (two64 - 1) (two64 - 1 - n)
row-high n h = neg-words {q = 0} (record { number = omega arith; fits = omega arith })

-- one row more: the sum so far is at most 2^63 for each row in size
pub record Summed (rows : List ℤ) (i : ℕ) (w : Wide) : Type 0 where
  pub size : nat_abs (sum_of (take i rows)) ≤ i * 2 ^ 63
  pub sum_is : w ≡ wide_of (sum_of (take i rows))

pub summed-none : (rows : List ℤ) → Summed rows 0 (words 0 0)
unfolding sum_of wide_of
summed-none rows = record { size = omega arith; sum_is = refl }

pub summed-more : (rows : List ℤ) (i : ℕ) (w : Wide) → i < length rows → length rows ≤ limit → SFits w64 (get_or rows i (pos 0)) → Summed rows i w
    → Summed rows (i + 1) (add_wide w (wide_of (get_or rows i (pos 0))))
unfolding sum_of
summed-more rows i w h l f s =
    let z = get_or rows i (pos 0) in
    let e : sum_of (take (i + 1) rows) ≡ sum_of (take i rows) +ℤ z =
    rw (add-one, take-suc rows i (pos 0) h) (sum-append (take i rows) (z ∷ []) ∙ rw +ℤ_idr) in
    record {
      size = rw e (omega (arith, sum-size (sum_of (take i rows)) z, row-size z f, s.size));
      sum_is = rw e (ap (λ (x : Wide). add_wide x (wide_of z)) s.sum_is
          ∙ added (sum_of (take i rows)) z (omega (arith, s.size)) (omega (arith, row-size z f)));
    }

pub sums : Sums
sums = record { bound = bound; value = value; added = added }
