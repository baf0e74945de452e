-- The walk over a patch list finds exactly refusals 3 and 7. Assumes nothing.
use mathlib.Core.Path.{◌≡◌, refl, ◌∙◌, sym, ap}
use Prim.Native.Nat.{ℕ, ◌+◌, ◌-◌, ◌<◌, ◌≤◌}
use native.Mathlib.Omega.{arith}
use native.Mathlib.Decide.{ℕ_discrete}
use mathlib.Core.Bool.{Bool, true, false, ◌&&◌, ◌||◌, or-true, or_assoc}
use mathlib.Core.List.{List, [], ◌∷◌}
use lib.Pow.{pow_pos}
use lib.Dec.{leb, ltb, eqb}
use borrow.Author.Tests.{le-ltb, lt-ltb, lt-leb, eq-eqb, ne_eqb, eqb-true, ltb-false}
use Rattle.format.specs.Fields.{pick}
use Rattle.format.proofs.RunComplete.{limit_is}
use Rattle.format.specs.Runs.{Patch, is_skip, gap_of, patch_of, patches_from, patches, last_is_skip, taken, shared, outside, patch_limit, too_large, out_of_place}
use Rattle.format.proofs.Tests.{never}
use Rattle.rle_v2.specs.PatchList.{misplaced, large, list_number}

-- ---- refusal 7

-- some patch has a place below f
under : ℕ → List Patch → Bool
under f [] = false
under f (q ∷ qs) = ltb q.place f || under f qs

-- places never fall below the sum so far
places-from : (pw before f : ℕ) (es : List ℕ) → f ≤ before → under f (patches_from pw before es) ≡ false
unfolding under patches_from
places-from pw before f [] h = refl
places-from pw before f (e ∷ es) h = go (is_skip pw e) (places-from pw (before + gap_of pw e) f es (omega arith))
  where
    go : (t : Bool) → under f (patches_from pw (before + gap_of pw e) es) ≡ false
        → under f (pick t (patches_from pw (before + gap_of pw e) es) (record { place = before + gap_of pw e; patch = patch_of pw e } ∷ patches_from pw (before + gap_of pw e) es)) ≡ false
    go true ih = ih
    go false ih = rw (le-ltb (before + gap_of pw e) f (omega arith)) ih

-- of places that are b at least, those below b + 1 are b
taken-under : (b : ℕ) (qs : List Patch) → under b qs ≡ false → taken b qs ≡ under (b + 1) qs
unfolding under taken
taken-under b [] h = refl
taken-under b (q ∷ qs) h = go (ltb q.place b) refl h (taken-under b qs)
  where
    by : Dec (b ≡ q.place) → b ≤ q.place → taken b qs ≡ under (b + 1) qs → (eqb b q.place || taken b qs) ≡ (ltb q.place (b + 1) || under (b + 1) qs)
    by (yes e) l ih = rw (eq-eqb b q.place e, lt-ltb q.place (b + 1) (omega arith))
    by (no e) l ih = rw (ne_eqb b q.place e, le-ltb q.place (b + 1) (omega arith)) ih

    go : (t : Bool) → ltb q.place b ≡ t → (t || under b qs) ≡ false → (under b qs ≡ false → taken b qs ≡ under (b + 1) qs)
        → (eqb b q.place || taken b qs) ≡ (ltb q.place (b + 1) || under (b + 1) qs)
    go true e z ih = never (cc)
    go false e z ih = by (ℕ_discrete b q.place) (ltb-false q.place b e) (ih z)

-- the last entry, or `skip` where there is none
last_or : ℕ → Bool → List ℕ → Bool
last_or pw skip [] = skip
last_or pw skip (e ∷ es) = last_or pw (is_skip pw e) es

last-is : (pw e : ℕ) (es : List ℕ) → last_is_skip pw (e ∷ es) ≡ last_or pw (is_skip pw e) es
unfolding last_is_skip last_or
last-is pw e [] = refl
last-is pw e (f ∷ es) = last-is pw f es

-- what the walk says, by what the definition says of the entries that are left
walk_is : (pw rows before free : ℕ) (skip : Bool) (es : List ℕ) → free ≤ before + 1
    → misplaced pw rows before free skip es
    ≡ (last_or pw skip es || (under free (patches_from pw before es) || (shared (patches_from pw before es) || outside rows (patches_from pw before es))))
unfolding misplaced last_or under patches_from shared outside
walk_is pw rows before free true [] h = refl
walk_is pw rows before free false [] h = refl
walk_is pw rows before free skip (e ∷ es) h = go (is_skip pw e) (walk_is pw rows b free true es (omega arith)) (walk_is pw rows b (b + 1) false es (omega arith))
  where
    b : ℕ
    b = before + gap_of pw e

    qs : List Patch
    qs = patches_from pw b es

    q : Patch
    q = record { place = b; patch = patch_of pw e }

    -- an entry whose place is free and inside
    in_place : (ltb b free ≡ false) → misplaced pw rows b (b + 1) false es ≡ (last_or pw false es || (under (b + 1) qs || (shared qs || outside rows qs)))
        → misplaced pw rows b (b + 1) false es ≡ (last_or pw false es || (under free qs || ((taken b qs || shared qs) || outside rows qs)))
    in_place l ih =
        ih ∙ rw (places-from pw b free es (ltb-false b free l), taken-under b qs (places-from pw b b es (omega arith))) (ap (λ (z : Bool). last_or pw false es || z) (sym (or_assoc (under (b + 1) qs) (shared qs) (outside rows qs))))

    by : (l o : Bool) → ltb b free ≡ l → leb rows b ≡ o → misplaced pw rows b (b + 1) false es ≡ (last_or pw false es || (under (b + 1) qs || (shared qs || outside rows qs)))
        → pick (l || o) true (misplaced pw rows b (b + 1) false es) ≡ (last_or pw false es || ((l || under free qs) || ((taken b qs || shared qs) || (o || outside rows qs))))
    by true o el eo ih = sym (or-true (last_or pw false es))
    by false true el eo ih = rw (or-true (taken b qs || shared qs), or-true (under free qs)) (sym (or-true (last_or pw false es)))
    by false false el eo ih = in_place el ih

    go : (t : Bool) → misplaced pw rows b free true es ≡ (last_or pw true es || (under free qs || (shared qs || outside rows qs)))
        → misplaced pw rows b (b + 1) false es ≡ (last_or pw false es || (under (b + 1) qs || (shared qs || outside rows qs)))
        → pick t (misplaced pw rows b free true es) (pick (ltb b free || leb rows b) true (misplaced pw rows b (b + 1) false es))
        ≡ (last_or pw t es || (under free (pick t qs (q ∷ qs)) || (shared (pick t qs (q ∷ qs)) || outside rows (pick t qs (q ∷ qs)))))
    go true skipped named = skipped
    go false skipped named = by (ltb b free) (leb rows b) refl refl named

pub misplaced-is : (pw rows : ℕ) (es : List ℕ) → misplaced pw rows 0 0 false es ≡ out_of_place pw rows es
unfolding out_of_place patches last_is_skip misplaced patches_from shared outside last_or
misplaced-is pw rows [] = refl
misplaced-is pw rows (e ∷ es) = walk_is pw rows 0 0 false (e ∷ es) (omega arith) ∙ rw (places-from pw 0 0 (e ∷ es) (omega arith), last-is pw e es)

-- ---- refusal 3

skip-parts : (pw e : ℕ) → is_skip pw e ≡ true → (gap_of pw e ≡ 255) × (patch_of pw e ≡ 0)
skip-parts pw e h = by (eqb (gap_of pw e) 255) (eqb (patch_of pw e) 0) refl refl h
  where
    by : (s t : Bool) → eqb (gap_of pw e) 255 ≡ s → eqb (patch_of pw e) 0 ≡ t → (s && t) ≡ true → (gap_of pw e ≡ 255) × (patch_of pw e ≡ 0)
    by true true i j h = (eqb-true (gap_of pw e) 255 i, eqb-true (patch_of pw e) 0 j)
    by true false i j h = never (cc)
    by false t i j h = never (cc)

pub skip-gap : (pw e : ℕ) → is_skip pw e ≡ true → gap_of pw e ≡ 255
skip-gap pw e h = (skip-parts pw e h).0

-- a skip's patch is below every limit, so that the places do not count
pub large_is : (w pw before : ℕ) (es : List ℕ) → too_large w (patches_from pw before es) ≡ large w pw es
unfolding too_large patches_from large
large_is w pw before [] = refl
large_is w pw before (e ∷ es) = go (is_skip pw e) refl (large_is w pw (before + gap_of pw e) es)
  where
    qs : List Patch
    qs = patches_from pw (before + gap_of pw e) es

    small : is_skip pw e ≡ true → patch_of pw e < patch_limit w
    small s = rw ((skip-parts pw e s).1, limit_is w) (pow_pos (64 - w))

    go : (t : Bool) → is_skip pw e ≡ t → too_large w qs ≡ large w pw es
        → too_large w (pick t qs (record { place = before + gap_of pw e; patch = patch_of pw e } ∷ qs)) ≡ (leb (patch_limit w) (patch_of pw e) || large w pw es)
    go true s ih = ih ∙ rw (lt-leb (patch_limit w) (patch_of pw e) (small s))
    go false s ih = rw ih

-- ---- none of the two

pub none-refused : (w pw rows : ℕ) (es : List ℕ) → list_number w pw rows es ≡ 0 → (too_large w (patches pw es) ≡ false) × (out_of_place pw rows es ≡ false)
unfolding list_number
none-refused w pw rows es z = by (too_large w (patches pw es)) (out_of_place pw rows es) z
  where
    by : (t o : Bool) → ◌≡◌ {A = ℕ} (pick t 3 (pick o 7 0)) 0 → (t ≡ false) × (o ≡ false)
    by true o z = absurd (omega arith)
    by false true z = absurd (omega arith)
    by false false z = (refl, refl)
