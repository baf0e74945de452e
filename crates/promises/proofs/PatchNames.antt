-- The patches of a list, and the entries that name them: each of the list's tests, and the entry that it passes for. Assumes nothing.
use Rattle.format.proofs.Common.{◌≡◌, refl, sym, subst, ◌⊎◌, inl, inr, ◌↔◌, ℕ, zero, suc, ◌+◌, ◌-◌, ◌^◌, ◌<◌, ◌≤◌, arith, Bool, true, false}
use Rattle.format.proofs.Common.{not, ◌||◌, List, [], ◌∷◌, length, get_or, T, leb, eqb, eqb→eq, leb→le, le→leb, T_not, eq-eqb}
use Rattle.format.specs.Fields.{pick}
use Rattle.format.specs.Runs.{Patch, patch_of, gap_of, is_skip, patches_from, taken, shared, patch_limit}
use Rattle.format.proofs.RunComplete.{limit_is}
use Rattle.format.proofs.Tests.{or_cases, or_left, or_right, either}
use Rattle.promises.specs.PatchLists.{place_of}

-- ---- tests

same : (a b : ℕ) → a ≡ b → T (eqb a b)
same a b e = rw (eq-eqb a b e) tt

-- refusal 3's test
pub at-limit : (w x : ℕ) → T (leb (patch_limit w) x) ↔ (2 ^ (64 - w) ≤ x)
at-limit w x = rw (limit_is w) (leb→le (2 ^ (64 - w)) x, le→leb (2 ^ (64 - w)) x)

-- ---- the patches of a list, and the entries that name them; `before` is the sum of the gaps before the list

module _ (pw : ℕ) where
  -- behind an entry: the sum of the gaps, and the patches
  abbrev pub past : ℕ → ℕ → ℕ
  past before e = before + gap_of pw e

  abbrev pub rest : ℕ → ℕ → List ℕ → List Patch
  rest before e es = patches_from pw (past before e) es

  pub record From (before : ℕ) (es : List ℕ) (j p : ℕ) : Type 0 where
    pub there : j < length es
    pub no-skip : T (not (is_skip pw (get_or es j 0)))
    pub here : before + place_of pw es j ≡ p

  pub from-here : (before e : ℕ) (es : List ℕ) → T (not (is_skip pw e)) → From before (e ∷ es) 0 (past before e)
  from-here before e es h = record { there = omega arith; no-skip = h; here = omega arith }

  pub from-there : (before e : ℕ) (es : List ℕ) (j p : ℕ) → From (past before e) es j p → From before (e ∷ es) (suc j) p
  from-there before e es j p f = record { there = omega (arith, f.there); no-skip = f.no-skip; here = omega (arith, f.here) }

  pub from_back : (before e : ℕ) (es : List ℕ) (j p : ℕ) → From before (e ∷ es) (suc j) p → From (past before e) es j p
  from_back before e es j p f = record { there = omega (arith, f.there); no-skip = f.no-skip; here = omega (arith, f.here) }

  pub from_zero : (before e : ℕ) (es : List ℕ) (p : ℕ) → From before (e ∷ es) 0 p → p ≡ past before e
  from_zero before e es p f = omega (arith, f.here)

  abbrev named : ℕ → ℕ → Patch
  named before e = record { place = past before e; patch = patch_of pw e }

  pub of-skip : (before e : ℕ) (es : List ℕ) → T (is_skip pw e) → patches_from pw before (e ∷ es) ≡ rest before e es
  unfolding patches_from
  of-skip before e es h = go (is_skip pw e) h
    where
      go : (t : Bool) → T t → pick t (rest before e es) (named before e ∷ rest before e es) ≡ rest before e es
      go true h = refl
      go false h = absurd h

  pub of_entry : (before e : ℕ) (es : List ℕ) → T (not (is_skip pw e)) → patches_from pw before (e ∷ es) ≡ named before e ∷ rest before e es
  unfolding patches_from
  of_entry before e es h = go (is_skip pw e) h
    where
      go : (t : Bool) → T (not t) → pick t (rest before e es) (named before e ∷ rest before e es) ≡ named before e ∷ rest before e es
      go true h = absurd h
      go false h = refl

  -- entry j of the list, as a patch at the place p
  abbrev patch_as : List ℕ → ℕ → ℕ → Patch
  patch_as es j p = record { place = p; patch = patch_of pw (get_or es j 0) }

  -- some entry names a place, and is a patch for which the test of the patches holds, both ways: `taken`, `outside` and `too_large` are such tests
  module _ (test : List Patch → Bool) (of : Patch → Bool) (none : test [] ≡ false)
      (one : (q : Patch) (qs : List Patch) → test (q ∷ qs) ≡ (of q || test qs)) where
    abbrev Some : ℕ → List ℕ → Type 0
    Some before es = (j p : ℕ) × From before es j p × T (of (patch_as es j p))

    pub some-names : (before : ℕ) (es : List ℕ) → T (test (patches_from pw before es)) → Some before es
    unfolding patches_from
    some-names before [] h = absurd (rw none at h)
    some-names before (e ∷ es) h = go (either (is_skip pw e)) (some-names (past before e) es)
      where
        later : Some (past before e) es → Some before (e ∷ es)
        later (j, p, f, t) = (suc j, p, from-there before e es j p f, t)

        go : T (is_skip pw e) ⊎ T (not (is_skip pw e)) → (T (test (rest before e es)) → Some (past before e) es) → Some before (e ∷ es)
        go (inl s) ih = later (ih (rw (of-skip before e es s) at h))
        go (inr s) ih = by (or_cases (of (named before e)) (test (rest before e es)) (rw (of_entry before e es s, one) at h))
          where
            by : T (of (named before e)) ⊎ T (test (rest before e es)) → Some before (e ∷ es)
            by (inl t) = (0, past before e, from-here before e es s, t)
            by (inr t) = later (ih t)

    pub names-some : (before : ℕ) (es : List ℕ) (j p : ℕ) → From before es j p → T (of (patch_as es j p)) → T (test (patches_from pw before es))
    names-some before [] j p f t = absurd (omega (arith, f.there))
    names-some before (e ∷ es) j p f t = go j f t (either (is_skip pw e)) (names-some (past before e) es)
      where
        go : (j : ℕ) → From before (e ∷ es) j p → T (of (patch_as (e ∷ es) j p)) → T (is_skip pw e) ⊎ T (not (is_skip pw e))
            → ((j p : ℕ) → From (past before e) es j p → T (of (patch_as es j p)) → T (test (rest before e es)))
            → T (test (patches_from pw before (e ∷ es)))
        go zero f t (inl s) ih = absurd (T_not (is_skip pw e) f.no-skip s)
        go zero f t (inr s) ih =
            rw (of_entry before e es s, one) (or_left (of (named before e)) (test (rest before e es)) (rw (from_zero before e es p f) at t))
        go (suc j) f t (inl s) ih = rw (of-skip before e es s) (ih j p (from_back before e es j p f) t)
        go (suc j) f t (inr s) ih =
            rw (of_entry before e es s, one)
            (or_right (of (named before e)) (test (rest before e es)) (ih j p (from_back before e es j p f) t))

  -- a place is taken: an entry names it
  taken-names : (p before : ℕ) (es : List ℕ) → T (taken p (patches_from pw before es)) → (j : ℕ) × From before es j p
  unfolding taken
  taken-names p before es h =
      let (j, p', f, t) = some-names (taken p) (λ q. eqb p q.place) refl (λ q qs. refl) before es h in
      (j, subst (λ (x : ℕ). From before es j x) (sym (eqb→eq p p' t)) f)

  pub names-taken : (p before : ℕ) (es : List ℕ) (j : ℕ) → From before es j p → T (taken p (patches_from pw before es))
  unfolding taken
  names-taken p before es j f = names-some (taken p) (λ q. eqb p q.place) refl (λ q qs. refl) before es j p f (same p p refl)

  -- two patches share a place: two entries name it
  abbrev Two : ℕ → List ℕ → Type 0
  Two before es = (i j p : ℕ) × (i < j) × From before es i p × From before es j p

  pub shared-names : (before : ℕ) (es : List ℕ) → T (shared (patches_from pw before es)) → Two before es
  unfolding shared patches_from
  shared-names before [] h = absurd h
  shared-names before (e ∷ es) h = go (either (is_skip pw e)) (shared-names (past before e) es)
    where
      later : Two (past before e) es → Two before (e ∷ es)
      later (i, j, p, l, f, g) = (suc i, suc j, p, omega arith, from-there before e es i p f, from-there before e es j p g)

      go : T (is_skip pw e) ⊎ T (not (is_skip pw e)) → (T (shared (rest before e es)) → Two (past before e) es) → Two before (e ∷ es)
      go (inl s) ih = later (ih (rw (of-skip before e es s) at h))
      go (inr s) ih =
          by (or_cases (taken (past before e) (rest before e es)) (shared (rest before e es)) (rw (of_entry before e es s) at h))
        where
          by : T (taken (past before e) (rest before e es)) ⊎ T (shared (rest before e es)) → Two before (e ∷ es)
          by (inl t) =
              let (j, f) = taken-names (past before e) (past before e) es t in
              (0, suc j, past before e, omega arith, from-here before e es s, from-there before e es j (past before e) f)
          by (inr t) = later (ih t)

  pub names-shared : (before : ℕ) (es : List ℕ) (i j p : ℕ) → i < j → From before es i p → From before es j p → T (shared (patches_from pw before es))
  unfolding shared
  names-shared before [] i j p l f g = absurd (omega (arith, f.there))
  names-shared before (e ∷ es) i j p l f g = go i j l f g (either (is_skip pw e)) (names-shared (past before e) es)
    where
      go : (i j : ℕ) → i < j → From before (e ∷ es) i p → From before (e ∷ es) j p → T (is_skip pw e) ⊎ T (not (is_skip pw e))
          → ((i j p : ℕ) → i < j → From (past before e) es i p → From (past before e) es j p → T (shared (rest before e es)))
          → T (shared (patches_from pw before (e ∷ es)))
      go i zero l f g s ih = absurd (omega (arith, l))
      go zero (suc j) l f g (inl s) ih = absurd (T_not (is_skip pw e) f.no-skip s)
      go zero (suc j) l f g (inr s) ih =
          rw (of_entry before e es s)
          (or_left (taken (past before e) (rest before e es)) (shared (rest before e es))
          (names-taken (past before e) (past before e) es j (rw (from_zero before e es p f) at (from_back before e es j p g))))
      go (suc i) (suc j) l f g (inl s) ih = rw (of-skip before e es s) (ih i j p (omega (arith, l)) (from_back before e es i p f) (from_back before e es j p g))
      go (suc i) (suc j) l f g (inr s) ih =
          rw (of_entry before e es s)
          (or_right (taken (past before e) (rest before e es)) (shared (rest before e es))
          (ih i j p (omega (arith, l)) (from_back before e es i p f) (from_back before e es j p g)))
