-- The table of widths, each law by one computed test over it.
-- Assumes nothing.
use Rattle.format.proofs.Common.{◌≡◌, sym, subst, ℕ, zero, suc, ◌+◌, ◌-◌, ◌<◌, ◌≤◌, arith, ℕ_discrete, Bool, true, false, ◌&&◌}
use Rattle.format.proofs.Common.{◌||◌, List, [], ◌∷◌, get_or, T, leb, eqb, eqb→eq, leb→le, lt-leb}
use native.Mathlib.Nat.{not-suc-le-zero}
use Rattle.format.proofs.Tests.{and_left, and_right}
use Rattle.format.specs.Fields.{pick, widths, width, least_of, least_width, Narrowest}

-- ---- computed tests

-- f passes at each number below n
abbrev pub all_b : ℕ → (ℕ → Bool) → Bool
all_b zero f = true
all_b (suc n) f = f n && all_b n f

pub all-at : (n : ℕ) (f : ℕ → Bool) → T (all_b n f) → (k : ℕ) → k < n → T (f k)
all-at zero f t k h = absurd (not-suc-le-zero h)
all-at (suc n) f t k h = by (ℕ_discrete k n) (λ l. all-at n f (and_right (f n) (all_b n f) t) k l)
  where
    by : Dec (k ≡ n) → (k < n → T (f k)) → T (f k)
    by (yes e) r = subst (λ (m : ℕ). T (f m)) (sym e) (and_left (f n) (all_b n f) t)
    by (no e) r = r (omega arith)

-- f passes at lo and at the n - 1 numbers after it
pub all_from : (f : ℕ → Bool) (lo n : ℕ) → T (all_b n (λ i. f (lo + i))) → (k : ℕ) → lo ≤ k → k < lo + n → T (f k)
all_from f lo n t k l h =
    let e : lo + (k - lo) ≡ k = omega arith in
    subst (λ (m : ℕ). T (f m)) e (all-at n (λ i. f (lo + i)) t (k - lo) (omega arith))

-- two functions agree there
pub same_from : (f g : ℕ → ℕ) (lo n : ℕ) → T (all_b n (λ i. eqb (f (lo + i)) (g (lo + i)))) → (k : ℕ) → lo ≤ k → k < lo + n → f k ≡ g k
same_from f g lo n t k l h = eqb→eq (f k) (g k) (all_from (λ i. eqb (f i) (g i)) lo n t k l h)

-- f passes at each number of a list
abbrev pub all_of : (ℕ → Bool) → List ℕ → Bool
all_of f [] = true
all_of f (x ∷ l) = f x && all_of f l

pub all_get_d : (f : ℕ → Bool) (l : List ℕ) (i d : ℕ) → T (all_of f l) → T (f d) → T (f (get_or l i d))
all_get_d f [] i d t u = u
all_get_d f (x ∷ l) zero d t u = and_left (f x) (all_of f l) t
all_get_d f (x ∷ l) (suc i) d t u = all_get_d f l i d (and_right (f x) (all_of f l) t) u

pub all-least : (f : ℕ → Bool) (l : List ℕ) (n : ℕ) → T (all_of f l) → T (f 64) → T (f (least_of l n))
unfolding least_of
all-least f [] n t u = u
all-least f (x ∷ l) n t u = by (leb n x) (all-least f l n (and_right (f x) (all_of f l) t) u)
  where
    by : (b : Bool) → T (f (least_of l n)) → T (f (pick b x (least_of l n)))
    by true r = and_left (f x) (all_of f l) t
    by false r = r

-- ---- what each width is: 1 to 64 bits, and 64 if more than 56

pub record IsWidth (w : ℕ) : Type 0 where
  pub pos : 1 ≤ w
  pub le : w ≤ 64
  pub window : 56 < w → w ≡ 64

abbrev is_width : ℕ → Bool
is_width w = leb 1 w && (leb w 64 && (leb w 56 || eqb w 64))

is-width : (w : ℕ) → T (is_width w) → IsWidth w
is-width w t =
    let u : T (leb w 64 && (leb w 56 || eqb w 64)) = and_right (leb 1 w) _ t in
    record {
      pos = leb→le 1 w (and_left (leb 1 w) _ t);
      le = leb→le w 64 (and_left (leb w 64) _ u);
      window = λ h. eqb→eq w 64 (simp (lt-leb w 56 h) at (and_right (leb w 64) _ u));
    }

pub width_is : (code : ℕ) → IsWidth (width code)
unfolding width widths
width_is code = is-width (width code) (all_get_d is_width widths code 64 tt tt)

pub least-is : (bits : ℕ) → IsWidth (least_width bits)
unfolding least_width widths
least-is bits = is-width (least_width bits) (all-least is_width widths bits tt tt)

pub width-pos : (code : ℕ) → 1 ≤ width code
width-pos code = (width_is code).pos

pub width-window : (code : ℕ) → 56 < width code → width code ≡ 64
width-window code = (width_is code).window

pub least-pos : (bits : ℕ) → 1 ≤ least_width bits
least-pos bits = (least-is bits).pos

pub least-le : (bits : ℕ) → least_width bits ≤ 64
least-le bits = (least-is bits).le

pub least-window : (bits : ℕ) → 56 < least_width bits → least_width bits ≡ 64
least-window bits = (least-is bits).window

-- it holds the bits
least_of-holds : (l : List ℕ) (n : ℕ) → n ≤ 64 → n ≤ least_of l n
unfolding least_of
least_of-holds [] n h = h
least_of-holds (w ∷ l) n h = by (leb n w) (λ t. leb→le n w t) (least_of-holds l n h)
  where
    by : (b : Bool) → (T b → n ≤ w) → n ≤ least_of l n → n ≤ pick b w (least_of l n)
    by true f r = f tt
    by false f r = r

pub least-holds : (bits : ℕ) → bits ≤ 64 → bits ≤ least_width bits
unfolding least_width
least-holds bits h = least_of-holds widths bits h

-- ---- the narrowest code is one

pub narrowest-unique : (x a b : ℕ) → Narrowest x a → Narrowest x b → a ≡ b
narrowest-unique x a b m n = omega (arith, m.least b n.is_code n.holds, n.least a m.is_code m.holds)
