-- Places of patches: a list's places rise strictly, and values with patches above them are taken apart in one way only. Assumes nothing.
use Rattle.format.proofs.Common.{◌≡◌, refl, sym, ap, ◌∙◌, ℕ, suc, ◌+◌, ◌-◌, ◌*◌, ◌/◌, ◌^◌, ◌<◌, ◌≤◌, add_comm, arith, ℕ_discrete, Bool}
use Rattle.format.proofs.Common.{true, false, not, ◌||◌, List, [], ◌∷◌, map, length, T, leb, eqb, nleb→lt, pow_pos, pow-add, high, low}
use Rattle.format.proofs.Common.{split, eq-eqb, ne_eqb, eqb-true}
use lib.Arith.{lt→nleb, digits_lt}
use Rattle.format.specs.Digits.{AllBelow}
use Rattle.format.specs.Fields.{pick, two64}
use Rattle.format.specs.Runs.{Patch, patch_of, gap_of, is_skip, patches_from, taken, shared, outside, too_large}
use Rattle.format.specs.Rows.{patch_at, patched_rows, plus}
use Rattle.format.proofs.RunComplete.{limit_is}
use Rattle.format.proofs.Tests.{not_left, not_right, or-not}
use Rattle.format.specs.PatchedWriting.{lows, patches_above}

-- ---- PLACES that rise strictly, from `low` on and below `end`

abbrev pub Rising : ℕ → ℕ → List Patch → Type 0
Rising low end [] = Unit {0}
Rising low end (q ∷ qs) = (low ≤ q.place) × (q.place < end) × Rising (suc q.place) end qs

pub rising-from : (low low' end : ℕ) (qs : List Patch) → low' ≤ low → Rising low end qs → Rising low' end qs
rising-from low low' end [] h r = tt
rising-from low low' end (q ∷ qs) h r = (omega (arith, r.0), r.1, r.2)

rising-past : (low end : ℕ) (qs : List Patch) → T (not (taken low qs)) → Rising low end qs → Rising (suc low) end qs
unfolding taken
rising-past low end [] t r = tt
rising-past low end (q ∷ qs) t r = (omega (arith, r.0, ne), r.1, r.2)
  where
    ne : low ≡ q.place → ⊥
    ne e = absurd (rw (eq-eqb low q.place e) at t)

-- a list that is not out of place rises
pub rises : (pw before end : ℕ) (es : List ℕ) → T (not (shared (patches_from pw before es))) → T (not (outside end (patches_from pw before es)))
    → Rising before end (patches_from pw before es)
unfolding patches_from shared outside
rises pw before end [] s o = tt
rises pw before end (e ∷ es) s o =
    by (is_skip pw e) (before + gap_of pw e) (patches_from pw (before + gap_of pw e) es) (omega arith) s o
    (rises pw (before + gap_of pw e) end es)
  where
    by : (t : Bool) (at : ℕ) (qs : List Patch) → before ≤ at → T (not (shared (pick t qs (record { place = at; patch = patch_of pw e } ∷ qs))))
        → T (not (outside end (pick t qs (record { place = at; patch = patch_of pw e } ∷ qs))))
        → (T (not (shared qs)) → T (not (outside end qs)) → Rising at end qs)
        → Rising before end (pick t qs (record { place = at; patch = patch_of pw e } ∷ qs))
    by true at qs h s o ih = rising-from at before end qs h (ih s o)
    by false at qs h s o ih = (
      h,
      nleb→lt end at (not_left (leb end at) (outside end qs) o),
      rising-past at end qs (not_left (taken at qs) (shared qs) s) (ih (not_right (taken at qs) (shared qs) s) (not_right (leb end at) (outside end qs) o)),
    )

-- and what rises is not out of place
rising-free : (p low end : ℕ) (qs : List Patch) → p < low → Rising low end qs → T (not (taken p qs))
unfolding taken
rising-free p low end [] h r = tt
rising-free p low end (q ∷ qs) h r =
    rw (ne_eqb p q.place (λ e. omega (arith, r.0))) (rising-free p (suc q.place) end qs (omega (arith, r.0)) r.2)

pub rising-unshared : (low end : ℕ) (qs : List Patch) → Rising low end qs → T (not (shared qs))
unfolding shared
rising-unshared low end [] r = tt
rising-unshared low end (q ∷ qs) r =
    or-not (taken q.place qs) (shared qs) (rising-free q.place (suc q.place) end qs (omega arith) r.2)
    (rising-unshared (suc q.place) end qs r.2)

pub rising_inside : (low end : ℕ) (qs : List Patch) → Rising low end qs → T (not (outside end qs))
unfolding outside
rising_inside low end [] r = tt
rising_inside low end (q ∷ qs) r = or-not (leb end q.place) (outside end qs) (lt→nleb end q.place r.1) (rising_inside (suc q.place) end qs r.2)

pub one_on : (p n : ℕ) → p + suc n ≡ suc p + n
one_on p n = omega arith

-- a place below them all has no patch
patch-below : (p low end : ℕ) (qs : List Patch) → p < low → Rising low end qs → patch_at p qs ≡ 0
unfolding patch_at
patch-below p low end [] h r = refl
patch-below p low end (q ∷ qs) h r =
    rw (ne_eqb p q.place (λ e. omega (arith, r.0))) (patch-below p (suc q.place) end qs (omega (arith, r.0)) r.2)

-- ---- DECOMPOSITION: values of w bits with patches above them, from place p on

unfoldable pub sums : ℕ → List Patch → ℕ → List ℕ → List ℕ
sums w qs p [] = []
sums w qs p (v ∷ vs) = (patch_at p qs * 2 ^ w + v) ∷ sums w qs (suc p) vs

pub rows-sums : (base w : ℕ) (qs : List Patch) (p : ℕ) (vs : List ℕ) → patched_rows base w qs p vs ≡ map (plus base) (sums w qs p vs)
unfolding patched_rows sums
rows-sums base w qs p [] = refl
rows-sums base w qs p (v ∷ vs) = rw (add_comm v (patch_at p qs * 2 ^ w), rows-sums base w qs (suc p) vs)

-- a patch whose place lies behind changes nothing
sums-drop : (w : ℕ) (q : Patch) (qs : List Patch) (p : ℕ) (vs : List ℕ) → q.place < p → sums w (q ∷ qs) p vs ≡ sums w qs p vs
unfolding sums patch_at
sums-drop w q qs p [] h = refl
sums-drop w q qs p (v ∷ vs) h = rw (ne_eqb p q.place (λ e. omega arith), sums-drop w q qs (suc p) vs (omega arith))

-- they are below 2^64 where refusal 3 does not apply
patch-fits : (w p : ℕ) (qs : List Patch) → T (not (too_large w qs)) → patch_at p qs < 2 ^ (64 - w)
unfolding too_large patch_at
patch-fits w p [] t = pow_pos (64 - w)
patch-fits w p (q ∷ qs) t =
    let u : T (not (leb (2 ^ (64 - w)) q.patch || too_large w qs)) = rw (limit_is w) at t in
    by (eqb p q.place) (nleb→lt _ _ (not_left (leb (2 ^ (64 - w)) q.patch) (too_large w qs) u))
    (patch-fits w p qs (not_right (leb (2 ^ (64 - w)) q.patch) (too_large w qs) u))
  where
    by : (u : Bool) → q.patch < 2 ^ (64 - w) → patch_at p qs < 2 ^ (64 - w) → pick u q.patch (patch_at p qs) < 2 ^ (64 - w)
    by true h k = h
    by false h k = k

-- what is above w bits of a 64-bit number has 64 - w bits, and back
above-pow : (w : ℕ) → w ≤ 64 → 2 ^ (64 - w) * 2 ^ w ≡ two64
above-pow w h =
    let e : 64 - w + w ≡ 64 = omega arith in
    sym (pow-add 2 (64 - w) w) ∙ ap (λ (n : ℕ). 2 ^ n) e

pub sums-below : (w : ℕ) (qs : List Patch) (p : ℕ) (vs : List ℕ) → w ≤ 64 → T (not (too_large w qs)) → AllBelow (2 ^ w) vs → AllBelow two64 (sums w qs p vs)
unfolding sums
sums-below w qs p [] h t b = tt
sums-below w qs p (v ∷ vs) h t b = (rw (above-pow w h) at (digits_lt (patch-fits w p qs t) b.0), sums-below w qs (suc p) vs h t b.1)

pub lows-sums : (w : ℕ) (qs : List Patch) (p : ℕ) (vs : List ℕ) → AllBelow (2 ^ w) vs → lows w (sums w qs p vs) ≡ vs
unfolding sums
lows-sums w qs p [] b = refl
lows-sums w qs p (v ∷ vs) b = rw (low (patch_at p qs) w b.0, lows-sums w qs (suc p) vs b.1)

-- the patches that are not 0
unfoldable pub kept : List Patch → List Patch
kept [] = []
kept (q ∷ qs) = pick (eqb q.patch 0) (kept qs) (q ∷ kept qs)

-- UNIQUE: what is above the values are the patches that are not 0, each at its place ..
pub above-sums : (w : ℕ) (vs : List ℕ) (qs : List Patch) (p : ℕ) → AllBelow (2 ^ w) vs → Rising p (p + length vs) qs
    → patches_above w p (sums w qs p vs) ≡ kept qs
unfolding sums patches_above kept patch_at
above-sums w [] [] p b r = refl
above-sums w [] (q ∷ qs) p b r = absurd (omega (arith, r.0, r.1))
above-sums w (v ∷ vs) [] p b r = rw (high 0 w b.0, above-sums w vs [] (suc p) b.1 tt)
above-sums w (v ∷ vs) (q ∷ qs) p b r = by (ℕ_discrete p q.place) (λ qs r. above-sums w vs qs (suc p) b.1 r)
  where
    by : Dec (p ≡ q.place) → ((qs : List Patch) → Rising (suc p) (suc p + length vs) qs → patches_above w (suc p) (sums w qs (suc p) vs) ≡ kept qs)
        → patches_above w p (sums w (q ∷ qs) p (v ∷ vs)) ≡ kept (q ∷ qs)
    by (yes e) ih =
        let r' : Rising (suc p) (suc p + length vs) qs = rw e (rw (e, one_on q.place (length vs)) at r.2) in
        rw (eq-eqb p q.place e, high q.patch w b.0, sums-drop w q qs (suc p) vs (omega arith), ih qs r', e)
    by (no n) ih =
        rw (ne_eqb p q.place n, patch-below p (suc q.place) _ qs (omega (arith, r.0)) r.2, high 0 w b.0)
        (ih (q ∷ qs) (omega (arith, r.0, n), omega (arith, r.1), rw (one_on p (length vs)) at r.2))

-- .. and the values with the patches above them are the numbers that they were taken from
pub above-rises : (w p : ℕ) (ds : List ℕ) → Rising p (p + length ds) (patches_above w p ds)
unfolding patches_above
above-rises w p [] = tt
above-rises w p (d ∷ ds) = by (eqb (d / 2 ^ w) 0) (rw (one_on p (length ds)) (above-rises w (suc p) ds))
  where
    by : (t : Bool) → Rising (suc p) (p + suc (length ds)) (patches_above w (suc p) ds)
        → Rising p (p + suc (length ds)) (pick t (patches_above w (suc p) ds) (record { place = p; patch = d / 2 ^ w } ∷ patches_above w (suc p) ds))
    by true r = rising-from (suc p) p _ (patches_above w (suc p) ds) (omega arith) r
    by false r = (omega arith, omega arith, r)

pub sums-above : (w p : ℕ) (ds : List ℕ) → sums w (patches_above w p ds) p (lows w ds) ≡ ds
unfolding sums patches_above patch_at
sums-above w p [] = refl
sums-above w p (d ∷ ds) = by (eqb (d / 2 ^ w) 0) refl (sums-above w (suc p) ds)
  where
    by : (t : Bool) → eqb (d / 2 ^ w) 0 ≡ t → sums w (patches_above w (suc p) ds) (suc p) (lows w ds) ≡ ds
        → sums w (pick t (patches_above w (suc p) ds) (record { place = p; patch = d / 2 ^ w } ∷ patches_above w (suc p) ds)) p (lows w (d ∷ ds)) ≡ d ∷ ds
    by true e ih = rw (
      patch-below p (suc p) _ (patches_above w (suc p) ds) (omega arith) (above-rises w (suc p) ds),
      ih,
      ← (eqb-true (d / 2 ^ w) 0 e),
      split d w,
    )
    by false e ih =
        rw (eq-eqb p p refl, sums-drop w (record { place = p; patch = d / 2 ^ w }) (patches_above w (suc p) ds) (suc p) (lows w ds) (omega arith), ih, split d w)
