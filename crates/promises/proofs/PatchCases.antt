-- A patch list by the names of its entries: its last entry, the patch at a place, refusal 3, and refusal 7 in its three cases.
-- Assumes nothing.
use Rattle.format.proofs.Common.{◌≡◌, refl, ◌≢◌, ◌⊎◌, inl, inr, ◌↔◌, ℕ, zero, suc, ◌-◌, arith, not, ◌||◌, List, [], ◌∷◌, length, get_or, T}
use Rattle.format.proofs.Common.{leb, leb→le, le→leb, T_not, eq-eqb, ne_eqb}
use Rattle.format.specs.Runs.{patch_of, is_skip, patches_from, patches, last_is_skip, taken, shared, outside, patch_limit, too_large, out_of_place}
use Rattle.format.specs.Rows.{patch_at}
use Rattle.format.proofs.Tests.{not_left, not_right, or_cases, or_left, or_right, either}
use Rattle.promises.specs.PatchLists.{Names, LastIsSkip, TooLarge, OutOfPlace}
use Rattle.promises.proofs.PatchNames.{at-limit, past, rest, From, from-here, from-there, from_back, from_zero, of-skip, of_entry}
use Rattle.promises.proofs.PatchNames.{some-names, names-some, names-taken, shared-names, names-shared}

-- ---- the last entry, and the patch at a place

module _ (pw : ℕ) where
  last-names : (es : List ℕ) → T (last_is_skip pw es) → LastIsSkip pw es
  unfolding last_is_skip
  last-names [] h = absurd h
  last-names (e ∷ []) h = (omega arith, h)
  last-names (e ∷ f ∷ es) h =
      let i : suc (suc (length es)) - 1 ≡ suc (suc (length es) - 1) = omega arith in
      (omega arith, rw i (last-names (f ∷ es) h).1)

  names-last : (es : List ℕ) → LastIsSkip pw es → T (last_is_skip pw es)
  unfolding last_is_skip
  names-last [] (l, h) = absurd (omega arith)
  names-last (e ∷ []) (l, h) = h
  names-last (e ∷ f ∷ es) (l, h) =
      let i : suc (suc (length es)) - 1 ≡ suc (suc (length es) - 1) = omega arith in
      names-last (f ∷ es) (omega arith, rw i at h)

  -- ---- the patch at a place

  pub patch-there : (before : ℕ) (es : List ℕ) (j p : ℕ) → From pw before es j p → T (not (shared (patches_from pw before es)))
      → patch_at p (patches_from pw before es) ≡ patch_of pw (get_or es j 0)
  unfolding patch_at shared
  patch-there before [] j p f n = absurd (omega (arith, f.there))
  patch-there before (e ∷ es) j p f n = go j f (either (is_skip pw e)) (patch-there (past pw before e) es)
    where
      go : (j : ℕ) → From pw before (e ∷ es) j p → T (is_skip pw e) ⊎ T (not (is_skip pw e))
          → ((j p : ℕ) → From pw (past pw before e) es j p → T (not (shared (rest pw before e es)))
          → patch_at p (rest pw before e es) ≡ patch_of pw (get_or es j 0))
          → patch_at p (patches_from pw before (e ∷ es)) ≡ patch_of pw (get_or (e ∷ es) j 0)
      go zero f (inl s) ih = absurd (T_not (is_skip pw e) f.no-skip s)
      go zero f (inr s) ih = rw (of_entry pw before e es s, eq-eqb p (past pw before e) (from_zero pw before e es p f))
      go (suc j) f (inl s) ih = rw (of-skip pw before e es s) (ih j p (from_back pw before e es j p f) (rw (of-skip pw before e es s) at n))
      go (suc j) f (inr s) ih =
          let m : T (not (taken (past pw before e) (rest pw before e es) || shared (rest pw before e es))) = rw (of_entry pw before e es s) at n in
          let ne : p ≢ past pw before e =
          λ z. T_not (taken (past pw before e) (rest pw before e es))
          (not_left (taken (past pw before e) (rest pw before e es)) (shared (rest pw before e es)) m)
          (names-taken pw (past pw before e) (past pw before e) es j (rw z at (from_back pw before e es j p f))) in
          rw (of_entry pw before e es s, ne_eqb p (past pw before e) ne)
          (ih j p (from_back pw before e es j p f) (not_right (taken (past pw before e) (rest pw before e es)) (shared (rest pw before e es)) m))

  pub patch-none : (before : ℕ) (es : List ℕ) (p : ℕ) → ((j : ℕ) → From pw before es j p → ⊥) → patch_at p (patches_from pw before es) ≡ 0
  unfolding patch_at patches_from
  patch-none before [] p n = refl
  patch-none before (e ∷ es) p n =
      go (either (is_skip pw e)) (patch-none (past pw before e) es p (λ j f. n (suc j) (from-there pw before e es j p f)))
    where
      go : T (is_skip pw e) ⊎ T (not (is_skip pw e)) → patch_at p (rest pw before e es) ≡ 0 → patch_at p (patches_from pw before (e ∷ es)) ≡ 0
      go (inl s) ih = rw (of-skip pw before e es s) ih
      go (inr s) ih = rw (of_entry pw before e es s, ne_eqb p (past pw before e) (λ z. n 0 (rw z (from-here pw before e es s)))) ih

  -- ---- refusal 3, and refusal 7 in its three cases

  pub named-from : (es : List ℕ) (j p : ℕ) → From pw 0 es j p → Names pw es j p
  named-from es j p f = record { there = f.there; no-skip = f.no-skip; here = omega (arith, f.here) }

  pub from_named : (es : List ℕ) (j p : ℕ) → Names pw es j p → From pw 0 es j p
  from_named es j p f = record { there = f.there; no-skip = f.no-skip; here = omega (arith, f.here) }

  pub too_large_lem : (w : ℕ) (es : List ℕ) → T (too_large w (patches pw es)) ↔ TooLarge w pw es
  unfolding patches too_large
  too_large_lem w es = (
    λ h. let (j, p, f, t) = some-names pw (too_large w) (λ q. leb (patch_limit w) q.patch) refl (λ q qs. refl) 0 es h in
        (j, p, named-from es j p f, (at-limit w _).0 t),
    λ (j, p, f, l). names-some pw (too_large w) (λ q. leb (patch_limit w) q.patch) refl (λ q qs. refl) 0 es j p (from_named es j p f) ((at-limit w _).1 l),
  )

  pub out-of-place : (rows : ℕ) (es : List ℕ) → T (out_of_place pw rows es) ↔ OutOfPlace pw rows es
  unfolding out_of_place patches outside
  out-of-place rows es = (λ h. to (or_cases (last_is_skip pw es) _ h), of)
    where
      to-rest : T (shared (patches_from pw 0 es)) ⊎ T (outside rows (patches_from pw 0 es)) → OutOfPlace pw rows es
      to-rest (inl h) =
          let (i, j, p, l, f, g) = shared-names pw 0 es h in
          inr (inl (i, j, p, l, named-from es i p f, named-from es j p g))
      to-rest (inr h) =
          let (j, p, f, t) = some-names pw (outside rows) (λ q. leb rows q.place) refl (λ q qs. refl) 0 es h in
          inr (inr (j, p, named-from es j p f, leb→le rows p t))

      to : T (last_is_skip pw es) ⊎ T (shared (patches_from pw 0 es) || outside rows (patches_from pw 0 es)) → OutOfPlace pw rows es
      to (inl h) = inl (last-names es h)
      to (inr h) = to-rest (or_cases (shared (patches_from pw 0 es)) (outside rows (patches_from pw 0 es)) h)

      of : OutOfPlace pw rows es → T (last_is_skip pw es || (shared (patches_from pw 0 es) || outside rows (patches_from pw 0 es)))
      of (inl h) = or_left (last_is_skip pw es) (shared (patches_from pw 0 es) || outside rows (patches_from pw 0 es)) (names-last es h)
      of (inr (inl (i, j, p, l, f, g))) =
          or_right (last_is_skip pw es) (shared (patches_from pw 0 es) || outside rows (patches_from pw 0 es))
          (or_left (shared (patches_from pw 0 es)) (outside rows (patches_from pw 0 es))
          (names-shared pw 0 es i j p l (from_named es i p f) (from_named es j p g)))
      of (inr (inr (j, p, f, l))) =
          or_right (last_is_skip pw es) (shared (patches_from pw 0 es) || outside rows (patches_from pw 0 es))
          (or_right (shared (patches_from pw 0 es)) (outside rows (patches_from pw 0 es))
          (names-some pw (outside rows) (λ q. leb rows q.place) refl (λ q qs. refl) 0 es j p (from_named es j p f) (le→leb rows p l)))
