-- The kept widths, each law by one computed test over the 32 codes, or over the bits. Assumes nothing.
use Rattle.format.proofs.Common.{◌≡◌, refl, ℕ, ◌<◌, ◌≤◌, lt_of_lt_of_le, arith, dec_lt, Bool, true, false, not, ◌||◌, List, [], ◌∷◌}
use Rattle.format.proofs.Common.{map, pow_mono, T, leb, ltb, eqb, leb→le, ltb→lt, eqb→eq, eqb-true, le-leb}
use native.Mathlib.Nat.{le_antisymm}
use mathlib.Core.Bool.{beq}
use Rattle.format.specs.Fields.{widths, width, least_of, Narrowest}
use Rattle.format.specs.Kept.{kept_widths, kept_codes, among, is_kept, is_kept_width, next_kept, NarrowestKept}
use Rattle.format.specs.PatchedWriting.{least_from, code_for}
use Rattle.format.proofs.Widths.{all_b, all-at, all_of}
use Rattle.format.proofs.Tests.{never, not_so, and_left, and_right}
use Rattle.format.proofs.Rows.{width-le}
use Rattle.format.proofs.Least.{least-none}

same : (a b : Bool) → T (beq a b) → a ≡ b
same true true t = refl
same true false t = absurd t
same false true t = absurd t
same false false t = refl

implied : (a b : Bool) → T (not a || b) → a ≡ true → T b
implied true b t e = t
implied false b t e = never (cc)

-- ---- the codes are those of the kept widths

pub widths-are : map width kept_codes ≡ kept_widths
unfolding width widths kept_codes kept_widths
widths-are = refl

pub kept-width : (code : ℕ) → code < 32 → is_kept code ≡ is_kept_width (width code)
unfolding width widths among kept_codes kept_widths is_kept is_kept_width
kept-width code h = same _ _ (all-at 32 (λ c. beq (is_kept c) (is_kept_width (width c))) tt code h)

-- ---- the next kept code: that of the least kept width that holds the width

pub next-width : (code : ℕ) → code < 32 → width (next_kept code) ≡ least_of kept_widths (width code)
unfolding width widths least_of kept_codes kept_widths next_kept
next-width code h = eqb→eq _ _ (all-at 32 (λ c. eqb (width (next_kept c)) (least_of kept_widths (width c))) tt code h)

pub next-kept : (code : ℕ) → code < 32 → is_kept (next_kept code) ≡ true
unfolding least_of among kept_codes is_kept next_kept
next-kept code h = same _ _ (all-at 32 (λ c. beq (is_kept (next_kept c)) true) tt code h)

pub kept_next : (code : ℕ) → code < 32 → is_kept code ≡ eqb (next_kept code) code
unfolding least_of among kept_codes is_kept next_kept
kept_next code h = same _ _ (all-at 32 (λ c. beq (is_kept c) (eqb (next_kept c) c)) tt code h)

pub next-code : (code : ℕ) → code < 32 → (code ≤ next_kept code) × (next_kept code < 32)
unfolding least_of kept_codes next_kept
next-code code h = (leb→le _ _ (all-at 32 (λ c. leb c (next_kept c)) tt code h), ltb→lt _ _ (all-at 32 (λ c. ltb (next_kept c) 32) tt code h))

pub next-wider : (code : ℕ) → code < 32 → width code ≤ width (next_kept code)
unfolding width widths least_of kept_codes next_kept
next-wider code h = leb→le _ _ (all-at 32 (λ c. leb (width c) (width (next_kept c))) tt code h)

-- ---- a kept code is a code

among_below : (b n : ℕ) (l : List ℕ) → T (all_of (λ x. ltb x b) l) → among n l ≡ true → n < b
unfolding among
among_below b n [] t e = never (cc)
among_below b n (x ∷ l) t e = by (eqb n x) refl e (λ f. among_below b n l (and_right (ltb x b) _ t) f)
  where
    by : (c : Bool) → eqb n x ≡ c → (c || among n l) ≡ true → (among n l ≡ true → n < b) → n < b
    by true f e r = omega (arith, eqb-true n x f, ltb→lt x b (and_left (ltb x b) _ t))
    by false f e r = r e

pub kept-code : (c : ℕ) → is_kept c ≡ true → c < 32
unfolding kept_codes is_kept
kept-code c e = among_below 32 c kept_codes tt e

pub no-code-kept : (c : ℕ) → 31 < c → is_kept c ≡ false
no-code-kept c h = not_so (is_kept c) (λ e. omega (arith, kept-code c e))

-- ---- a kept width is a width of the table, and the others above 64 are none

kept-le : (w : ℕ) → is_kept_width w ≡ true → w < 65
unfolding kept_widths is_kept_width
kept-le w e = among_below 65 w kept_widths tt e

pub wide-not-kept : (w : ℕ) → 64 < w → is_kept_width w ≡ false
wide-not-kept w h = not_so (is_kept_width w) (λ e. omega (arith, kept-le w e))

wide-none : (w : ℕ) → 64 < w → code_for w ≡ 32
unfolding code_for
wide-none w h = least-none (λ c. eqb (width c) w) 0 32 (λ i a b t. omega (arith, width-le i, eqb→eq (width i) w t))

-- by the code that stands for the width
table_kept : (w : ℕ) → w < 65 → is_kept (code_for w) ≡ is_kept_width w
unfolding width widths among kept_codes kept_widths is_kept is_kept_width least_from code_for
table_kept w h = same _ _ (all-at 65 (λ b. beq (is_kept (code_for b)) (is_kept_width b)) tt w h)

pub kept-by-code : (w : ℕ) → is_kept (code_for w) ≡ is_kept_width w
kept-by-code w = by (dec_lt 64 w)
  where
    by : Dec (64 < w) → is_kept (code_for w) ≡ is_kept_width w
    by (yes h) = rw (wide-none w h, wide-not-kept w h) (no-code-kept 32 (omega arith))
    by (no h) = table_kept w (omega arith)

-- ---- the narrowest kept code

abbrev holds : ℕ → ℕ → Bool
holds a b = not (is_kept b) || (not (leb a b) || leb (next_kept a) b)

next-least : (code c : ℕ) → code < 32 → is_kept c ≡ true → code ≤ c → next_kept code ≤ c
unfolding least_of among kept_codes is_kept next_kept
next-least code c h k l =
    let t : T (not (is_kept c) || (not (leb code c) || leb (next_kept code) c)) =
    all-at 32 (holds code) (all-at 32 (λ a. all_b 32 (holds a)) tt code h) c (kept-code c k) in
    leb→le (next_kept code) c (implied (leb code c) _ (implied (is_kept c) _ t k) (le-leb code c l))

-- it is the one after the narrowest code
pub narrowest-next : (x code : ℕ) → Narrowest x code → NarrowestKept x (next_kept code)
narrowest-next x code n = record {
  kept = next-kept code n.is_code;
  holds = lt_of_lt_of_le n.holds (pow_mono (next-wider code n.is_code));
  least = λ c k h. next-least code c n.is_code k (n.least c (kept-code c k) h);
}

pub narrowest-kept-unique : (x a b : ℕ) → NarrowestKept x a → NarrowestKept x b → a ≡ b
narrowest-kept-unique x a b p q = le_antisymm (p.least b q.kept q.holds) (q.least a p.kept p.holds)
