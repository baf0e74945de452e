-- Tests, as Booleans and as facts, and cases that can't be: the laws of Booleans of every room stand here, but for those of the kit (`mathlib.Core.Bool`,
-- `lib.Dec`, `borrow.Author.Tests`). Assumes nothing.
use Rattle.format.proofs.Common.{◌≡◌, refl, ap, ◌∙◌, ◌⊎◌, inl, inr, ℕ, zero, suc, ◌≤◌, arith, Bool, true, false, not, ◌&&◌, ◌||◌}
use Rattle.format.proofs.Common.{List, [], ◌∷◌, T, leb, ltb, eqb, leb→le, le→leb, ltb→lt, lt→ltb, eqb→eq, eqb_refl, length}
use Rattle.format.proofs.Common.{replicate}
use Rattle.format.specs.Digits.{AllBelow}
use Rattle.format.specs.Writing.{every, between}

-- ---- what can't be: two constructors are never equal, and `cc` says so of the equations in scope. `never (cc)` closes such a case, and
-- `never (cc law)` with one law more.

pub never {ℓ} : {A : Type ℓ} → ◌≡◌ {A = ℕ} 0 1 → A
never e = absurd (omega arith)

-- ---- a test, as an equation and as a fact

pub T_true : (a : Bool) → T a → a ≡ true
T_true true t = refl
T_true false t = absurd t

pub true-T : (a : Bool) → a ≡ true → T a
true-T true e = tt
true-T false e = never (cc)

pub is_false : (a : Bool) → (T a → ⊥) → a ≡ false
is_false true f = absurd (f tt)
is_false false f = refl

pub not_so : (a : Bool) → (a ≡ true → ⊥) → a ≡ false
not_so true f = absurd (f refl)
not_so false f = refl

pub either : (a : Bool) → T a ⊎ T (not a)
either true = inl tt
either false = inr tt

-- tests that pass for the same things are equal
pub same_test : (a b : Bool) → (T a → T b) → (T b → T a) → a ≡ b
same_test true true f g = refl
same_test true false f g = absurd (f tt)
same_test false true f g = absurd (g tt)
same_test false false f g = refl

-- ---- two tests that both pass

pub and_i : (a b : Bool) → T a → T b → T (a && b)
and_i true b x y = y
and_i false b x y = x

pub and_left : (a b : Bool) → T (a && b) → T a
and_left true b t = tt
and_left false b t = t

pub and_right : (a b : Bool) → T (a && b) → T b
and_right true b t = t
and_right false b t = absurd t

pub and-e : (a b : Bool) → T (a && b) → T a × T b
and-e a b t = (and_left a b t, and_right a b t)

pub both : (a b : Bool) → (a && b) ≡ true → (a ≡ true) × (b ≡ true)
both true b e = (refl, e)
both false b e = never (cc)

-- ---- two tests of which one passes, or neither

pub or_cases : (a b : Bool) → T (a || b) → T a ⊎ T b
or_cases true b h = inl tt
or_cases false b h = inr h

pub or_left : (a b : Bool) → T a → T (a || b)
or_left true b h = tt
or_left false b h = absurd h

pub or_right : (a b : Bool) → T b → T (a || b)
or_right true b h = tt
or_right false b h = h

pub or-not : (a b : Bool) → T (not a) → T (not b) → T (not (a || b))
or-not true b h k = h
or-not false b h k = k

pub not_left : (a b : Bool) → T (not (a || b)) → T (not a)
not_left true b t = t
not_left false b t = tt

pub not_right : (a b : Bool) → T (not (a || b)) → T (not b)
not_right true b t = absurd t
not_right false b t = t

pub neither : (a b : Bool) → (a || b) ≡ false → (a ≡ false) × (b ≡ false)
neither true b e = never (cc)
neither false b e = (refl, e)

-- ---- bounds, and tests of all numbers of a list

pub between_le : (low high n : ℕ) → T (between low high n) → (low ≤ n) × (n ≤ high)
between_le low high n t =
    let p : T (leb low n) × T (leb n high) = and-e (leb low n) (leb n high) t in
    (leb→le low n p.0, leb→le n high p.1)

pub le-between : (low high n : ℕ) → low ≤ n → n ≤ high → T (between low high n)
le-between low high n p q = and_i (leb low n) (leb n high) (le→leb low n p) (le→leb n high q)

-- every number is below b
pub every-below : (b : ℕ) (l : List ℕ) → T (every (λ x. ltb x b) l) → AllBelow b l
unfolding every
every-below b [] t = tt
every-below b (x ∷ l) t = let p = and-e (ltb x b) (every (λ x. ltb x b) l) t in (ltb→lt x b p.0, every-below b l p.1)

pub below-every : (b : ℕ) (l : List ℕ) → AllBelow b l → T (every (λ x. ltb x b) l)
unfolding every
below-every b [] t = tt
below-every b (x ∷ l) t = and_i (ltb x b) _ (lt→ltb x b t.0) (below-every b l t.1)

-- every number is d
pub every-same : (d : ℕ) (l : List ℕ) → T (every (λ x. eqb x d) l) → l ≡ replicate (length l) d
unfolding every
every-same d [] t = refl
every-same d (x ∷ l) t =
    let p = and-e (eqb x d) (every (λ x. eqb x d) l) t in
    ap (λ (y : ℕ). y ∷ l) (eqb→eq x d p.0) ∙ ap (λ (m : List ℕ). d ∷ m) (every-same d l p.1)

pub same-every : (n d : ℕ) → T (every (λ x. eqb x d) (replicate n d))
unfolding every
same-every zero d = tt
same-every (suc n) d = and_i (eqb d d) _ (eqb_refl d) (same-every n d)
