-- The order of whole numbers, and the smallest and the largest of a list. Assumes nothing.
use Rattle.std.proofs.Common.{◌≡◌, ℕ, ◌+◌, ◌<◌, Bool, true, false, T, ◌⊎◌, ◌↔◌, List, [], ◌∷◌, ◌++◌, length, get_or, take, ℤ, pos, negsuc, ◌≤ℤ◌, sym, refl, ap, ◌∙◌, inl, inr, add-one, arith, le→leb, leb→le, take-suc, to_z-of_z, w64, SFits, to_z, of_z, leb-false, Option, None, Some}
use mathlib.Core.List.Memᴰ
use mathlib.Core.List.{Memᴰ}
use lib.Signed.{le_z, ≤ℤ_refl}
use Rattle.std.proofs.lemmas.Grind.{common_steps}
use Rattle.std.specs.Int.{int_min, int_max}
use Rattle.format.specs.Fields.{pick}
use Rattle.format.proofs.Tests.{never}
use Rattle.tally.specs.Totals.{lower, higher, of_two, of_all}
use Rattle.tally.specs.Laws.{Best, ExtremesHold}

-- ---- the order

pub le_trans : {a b c : ℤ} → a ≤ℤ b → b ≤ℤ c → a ≤ℤ c
le_trans {a} {b} {c} h k = record { le = go a b c h.le k.le }
  where
    go : (a b c : ℤ) → T (le_z a b) → T (le_z b c) → T (le_z a c)
    go (pos a) (pos b) (pos c) h k = le→leb a c (omega (arith, leb→le a b h, leb→le b c k))
    go (pos a) (pos b) (negsuc c) h k = k
    go (pos a) (negsuc b) c h k = absurd h
    go (negsuc a) b (pos c) h k = tt
    go (negsuc a) (pos b) (negsuc c) h k = absurd k
    go (negsuc a) (negsuc b) (negsuc c) h k = le→leb c a (omega (arith, leb→le b a h, leb→le c b k))

pub le_antisym : {a b : ℤ} → a ≤ℤ b → b ≤ℤ a → a ≡ b
le_antisym {a} {b} h k = go a b h.le k.le
  where
    go : (a b : ℤ) → T (le_z a b) → T (le_z b a) → a ≡ b
    go (pos a) (pos b) h k = ap pos (omega (arith, leb→le a b h, leb→le b a k))
    go (pos a) (negsuc b) h k = absurd h
    go (negsuc a) (pos b) h k = absurd k
    go (negsuc a) (negsuc b) h k = ap negsuc (omega (arith, leb→le a b k, leb→le b a h))

le-flip : (a b : ℤ) → le_z a b ≡ false → b ≤ℤ a
le-flip a b e = record { le = go a b e }
  where
    go : (a b : ℤ) → le_z a b ≡ false → T (le_z b a)
    go (pos a) (pos b) e = le→leb b a (omega (arith, leb-false a b e))
    go (pos a) (negsuc b) e = tt
    go (negsuc a) (pos b) e = never (cc)
    go (negsuc a) (negsuc b) e = le→leb a b (omega (arith, leb-false b a e))

-- ---- a choice that takes one of the two, the one that R says

pub record Choice (R : ℤ → ℤ → Type 0) (choice : ℤ → ℤ → ℤ) : Type 0 where
  pub R-refl : (a : ℤ) → R a a
  pub R-trans : {a b c : ℤ} → R a b → R b c → R a c
  pub R-antisym : {a b : ℤ} → R a b → R b a → a ≡ b
  pub chooses : (a b : ℤ) → ((choice a b ≡ a) × R a b) ⊎ ((choice a b ≡ b) × R b a)

module _ (R : ℤ → ℤ → Type 0) (choice : ℤ → ℤ → ℤ) (o : Choice R choice) where
  chosen-left : (a b : ℤ) → R (choice a b) a
  chosen-left a b = go (o.chooses a b)
    where
      go : ((choice a b ≡ a) × R a b) ⊎ ((choice a b ≡ b) × R b a) → R (choice a b) a
      go (inl (e, r)) = rw e (o.R-refl a)
      go (inr (e, r)) = rw e r

  chosen-right : (a b : ℤ) → R (choice a b) b
  chosen-right a b = go (o.chooses a b)
    where
      go : ((choice a b ≡ a) × R a b) ⊎ ((choice a b ≡ b) × R b a) → R (choice a b) b
      go (inl (e, r)) = rw e r
      go (inr (e, r)) = rw e (o.R-refl b)

  -- what is R to both is R to the chosen one
  to-chosen : (x a b : ℤ) → R x a → R x b → R x (choice a b)
  to-chosen x a b p q = go (o.chooses a b)
    where
      go : ((choice a b ≡ a) × R a b) ⊎ ((choice a b ≡ b) × R b a) → R x (choice a b)
      go (inl (e, r)) = rw e p
      go (inr (e, r)) = rw e q

  choice-assoc : (a b c : ℤ) → choice (choice a b) c ≡ choice a (choice b c)
  choice-assoc a b c =
      o.R-antisym
      (to-chosen _ a (choice b c) (o.R-trans (chosen-left _ c) (chosen-left a b))
      (to-chosen _ b c (o.R-trans (chosen-left _ c) (chosen-right a b)) (chosen-right _ c)))
      (to-chosen _ (choice a b) c (to-chosen _ a b (chosen-left a _) (o.R-trans (chosen-right a _) (chosen-left b c)))
      (o.R-trans (chosen-right a _) (chosen-right b c)))

  pub of_two-assoc : (a b c : Option ℤ) → of_two choice (of_two choice a b) c ≡ of_two choice a (of_two choice b c)
  of_two-assoc None b c = refl
  of_two-assoc (Some a) None c = refl
  of_two-assoc (Some a) (Some b) None = refl
  of_two-assoc (Some a) (Some b) (Some c) = ap Some (choice-assoc a b c)

  pub of_all-append : (zs ys : List ℤ) → of_all choice (zs ++ ys) ≡ of_two choice (of_all choice zs) (of_all choice ys)
  unfolding of_all
  of_all-append [] ys = refl
  of_all-append (z ∷ zs) ys = rw (of_all-append zs ys) (sym (of_two-assoc (Some z) (of_all choice zs) (of_all choice ys)))

  best-cons : (z m : ℤ) (zs : List ℤ) → Best R zs m → Best R (z ∷ zs) (choice z m)
  best-cons z m zs b = record { row = at (o.chooses z m); all-rows = to }
    where
      at : ((choice z m ≡ z) × R z m) ⊎ ((choice z m ≡ m) × R m z) → Memᴰ (choice z m) (z ∷ zs)
      at (inl (e, r)) = Memᴰ.head e
      at (inr (e, r)) = Memᴰ.tail {xs = zs} (rw e b.row)

      to : (y : ℤ) → Memᴰ y (z ∷ zs) → R (choice z m) y
      to y (Memᴰ.head e) = rw e (chosen-left z m)
      to y (Memᴰ.tail k) = o.R-trans (chosen-right z m) (b.all-rows y k)

  -- none of no rows, or the best
  data Holds (zs : List ℤ) : Option ℤ → Type 0 where
    holds-none : zs ≡ [] → Holds zs None
    holds-best : {z : ℤ} → Best R zs z → Holds zs (Some z)

  only : (z y : ℤ) (zs : List ℤ) → zs ≡ [] → Memᴰ y (z ∷ zs) → R z y
  only z y zs e (Memᴰ.head h) = rw h (o.R-refl z)
  only z y zs e (Memᴰ.tail k) = absurd (Memᴰ.not-nil (rw e at k))

  holds : (zs : List ℤ) → Holds zs (of_all choice zs)
  unfolding of_all
  holds [] = holds-none refl
  holds (z ∷ zs) = go (holds zs)
    where
      go : {e : Option ℤ} → Holds zs e → Holds (z ∷ zs) (of_two choice (Some z) e)
      go (holds-none e) = holds-best (record { row = Memᴰ.head refl; all-rows = λ y k. only z y zs e k })
      go (holds-best b) = holds-best (best-cons z _ zs b)

  of_none : {zs : List ℤ} → Holds zs None → zs ≡ []
  of_none (holds-none e) = e

  of-best : {zs : List ℤ} {z : ℤ} → Holds zs (Some z) → Best R zs z
  of-best (holds-best b) = b

  none-exactly : (zs : List ℤ) → (of_all choice zs ≡ None) ↔ (zs ≡ [])
  unfolding of_all
  none-exactly zs = (λ e. of_none (rw e at (holds zs)), λ e. rw e)

  best-exactly : (zs : List ℤ) (z : ℤ) → (of_all choice zs ≡ Some z) ↔ Best R zs z
  best-exactly zs z = (λ e. of-best (rw e at (holds zs)), λ b. same b (holds zs))
    where
      same : {e : Option ℤ} → Best R zs z → Holds zs e → e ≡ Some z
      same b (holds-none e) = absurd (Memᴰ.not-nil (rw e at b.row))
      same b (holds-best c) = ap Some (o.R-antisym (c.all-rows z b.row) (b.all-rows _ c.row))

-- ---- the lower and the higher

pub lowers : Choice (λ a b. a ≤ℤ b) lower
lowers = record { R-refl = ≤ℤ_refl; R-trans = le_trans; R-antisym = le_antisym; chooses = λ a b. go a b (le_z a b) refl }
  where
    go : (a b : ℤ) (t : Bool) → le_z a b ≡ t → ((pick t a b ≡ a) × (a ≤ℤ b)) ⊎ ((pick t a b ≡ b) × (b ≤ℤ a))
    go a b true e = inl (refl, record { le = rw e tt })
    go a b false e = inr (refl, le-flip a b e)

pub highers : Choice (λ a b. b ≤ℤ a) higher
highers = record { R-refl = ≤ℤ_refl; R-trans = λ h k. le_trans k h; R-antisym = λ h k. le_antisym k h; chooses = λ a b. go a b (le_z a b) refl }
  where
    go : (a b : ℤ) (t : Bool) → le_z a b ≡ t → ((pick t b a ≡ a) × (b ≤ℤ a)) ⊎ ((pick t b a ≡ b) × (a ≤ℤ b))
    go a b true e = inr (refl, record { le = rw e tt })
    go a b false e = inl (refl, le-flip a b e)

pub extremes-hold : ExtremesHold
extremes-hold zs = record {
  no-smallest = none-exactly _ lower lowers zs;
  no-largest = none-exactly _ higher highers zs;
  smallest = best-exactly _ lower lowers zs;
  largest = best-exactly _ higher highers zs;
}

-- ---- the code's choices and rows

pub least-lower : (a b : ℤ) → int_min a b ≡ lower a b
least-lower a b = grind (arith, common_steps)

pub most-higher : (a b : ℤ) → int_max a b ≡ higher a b
most-higher a b = grind (arith, common_steps)

pub taken-row : (z : ℤ) → SFits w64 z → to_z w64 (of_z w64 z) ≡ z
taken-row z f = to_z-of_z f

-- one row more
module _ (R : ℤ → ℤ → Type 0) (choice : ℤ → ℤ → ℤ) (o : Choice R choice) where
  pub one-row : (zs : List ℤ) → 0 < length zs → of_all choice (take 1 zs) ≡ Some (get_or zs 0 (pos 0))
  unfolding of_all
  one-row [] h = absurd (omega arith)
  one-row (z ∷ zs) h = refl

  pub more-row : (zs : List ℤ) (i : ℕ) (m : ℤ) → i < length zs → of_all choice (take i zs) ≡ Some m
      → of_all choice (take (i + 1) zs) ≡ Some (choice m (get_or zs i (pos 0)))
  unfolding of_all
  more-row zs i m h e =
      rw (add-one, take-suc zs i (pos 0) h) (of_all-append R choice o (take i zs) (get_or zs i (pos 0) ∷ []) ∙ rw e)

  -- and of the rows after a first
  pub next-row : (z : ℤ) (zs : List ℤ) (i : ℕ) (m : ℤ) → i < length zs → of_all choice (take (i + 1) (z ∷ zs)) ≡ Some m
      → of_all choice (take (i + 1 + 1) (z ∷ zs)) ≡ Some (choice m (get_or zs i (pos 0)))
  next-row z zs i m h e =
      let f : get_or (z ∷ zs) (i + 1) (pos 0) ≡ get_or zs i (pos 0) = rw add-one in
      more-row (z ∷ zs) (i + 1) m (omega arith) e ∙ ap (λ x. Some (choice m x)) f
