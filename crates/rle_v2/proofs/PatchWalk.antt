-- The turns of the two walks over a patch list: the one that finds refusals 3 and 7, and the one that puts the patches into the rows. Assumes nothing.
use mathlib.Core.Path.{◌≡◌, refl, sym, ap, ◌∙◌}
use Prim.Native.Nat.{ℕ, ◌+◌, ◌*◌, ◌<◌, ◌≤◌}
use native.Mathlib.Omega.{arith}
use native.Mathlib.Numerals.{add-one}
use mathlib.Core.Bool.{Bool, true, false, ◌||◌}
use mathlib.Core.List.{List, ◌∷◌}
use lib.ListN.{length, get_or, set, drop, length-set, drop_of_length-le}
use lib.Seq.{drop-cons}
use lib.IntN.{ℤ, pos}
use lib.Dec.{leb, ltb}
use borrow.Author.Tests.{le-ltb, lt-leb, le-leb, leb-false}
use Rattle.format.specs.Digits.{AllBelow}
use Rattle.format.specs.Fields.{pick, bytes_for}
use Rattle.format.specs.Runs.{is_skip, gap_of, patch_of, patches, patch_limit, too_large, out_of_place}
use Rattle.format.proofs.Tests.{never, neither}
use Rattle.util.specs.Packed.{fields, field_at}
use Rattle.util.proofs.Window.{field-at, length_fields}
use Rattle.rle_v2.specs.PatchList.{IsEntry, misplaced, large, list_number, patched_row, patch_all}
use Rattle.rle_v2.proofs.PatchRefusals.{misplaced-is, large_is, skip-gap}

-- entry k, and those after it
pub entry_next : (w n k : ℕ) (s : List ℕ) → AllBelow 256 s → k < n → bytes_for (n * w) ≤ length s
    → drop k (fields w n s) ≡ field_at w k s ∷ drop (k + 1) (fields w n s)
entry_next w n k s d h l = rw (add-one, drop-cons (fields w n s) k 0 (rw length_fields h), field-at w n k s d h l)

-- ---- the walk that finds refusals 3 and 7

-- an entry that is passed, or that is too large
module _ (w pw : ℕ) (es : List ℕ) (k e patch : ℕ) (n : drop k es ≡ e ∷ drop (k + 1) es) (i : patch ≡ patch_of pw e) where
  pub large-next : patch < patch_limit w → large w pw (drop k es) ≡ large w pw (drop (k + 1) es)
  unfolding large
  large-next h = rw (n, ← i, lt-leb (patch_limit w) patch h)

  pub large-here : patch_limit w ≤ patch → large w pw (drop k es) ≡ true
  unfolding large
  large-here h = rw (n, ← i, le-leb (patch_limit w) patch h)

pub large-none : (w pw : ℕ) (es : List ℕ) (k : ℕ) → length es ≤ k → large w pw (drop k es) ≡ false
unfolding large
large-none w pw es k h = rw (drop_of_length-le es {i = k} h)

module _ (w pw rows : ℕ) (es : List ℕ) where
  -- k entries are passed; the sum of their gaps is small as long as each of them is in place
  pub record Walk (k place free : ℕ) (skip : Bool) : Type 0 where
    pub so_far : misplaced pw rows place free skip (drop k es) ≡ out_of_place pw rows es
    pub fitting : large w pw (drop k es) ≡ too_large w (patches pw es)
    pub low : place ≤ 511 + 255 * k

  pub walk_first : Walk 0 0 0 false
  unfolding patches
  walk_first = record { so_far = misplaced-is pw rows es; fitting = sym (large_is w pw 0 es); low = omega arith }

  pub walk-last : (k place free : ℕ) (skip : Bool) → Walk k place free skip → length es ≤ k → pick skip 7 0 ≡ list_number w pw rows es
  unfolding misplaced list_number
  walk-last k place free skip x h =
      let o : skip ≡ out_of_place pw rows es = rw (drop_of_length-le es {i = k} h) at x.so_far in
      let t : too_large w (patches pw es) ≡ false = sym x.fitting ∙ large-none w pw es k h in
      rw (t, ← o)

  module _ (k place free e gap patch : ℕ) (skip t : Bool) (x : Walk k place free skip) (n : drop k es ≡ e ∷ drop (k + 1) es) (i : IsEntry pw e gap patch t) where
    pub walk-large : patch_limit w ≤ patch → 3 ≡ list_number w pw rows es
    unfolding list_number
    walk-large h =
        let l : too_large w (patches pw es) ≡ true = sym x.fitting ∙ large-here w pw es k e patch n i.patch-is h in
        rw l

    pub walk-stop : t ≡ false → (ltb (place + gap) free || leb rows (place + gap)) ≡ true → pick (large w pw (drop k es)) 3 7 ≡ list_number w pw rows es
    unfolding misplaced list_number
    walk-stop y b =
        let o : true ≡ out_of_place pw rows es = rw (n, sym i.skip_is ∙ y, ← i.gap_is, b) at x.so_far in
        rw (x.fitting, ← o)

    module _ (h : patch < patch_limit w) where
      pub walk-skip : t ≡ true → Walk (k + 1) (place + gap) free t
      unfolding misplaced
      walk-skip y =
          let u : is_skip pw e ≡ true = sym i.skip_is ∙ y in
          let g : gap ≡ 255 = i.gap_is ∙ skip-gap pw e u in
          record {
            so_far = rw (y, i.gap_is) (rw (n, u) at x.so_far);
            fitting = sym (large-next w pw es k e patch n i.patch-is h) ∙ x.fitting;
            low = omega (arith, x.low);
          }

      pub walk-named : t ≡ false → free ≤ place + gap → place + gap < rows → rows ≤ 512 → Walk (k + 1) (place + gap) (place + gap + 1) t
      unfolding misplaced
      walk-named y f l m =
          let u : is_skip pw e ≡ false = sym i.skip_is ∙ y in
          let q : place + gap_of pw e ≡ place + gap = ap (λ (z : ℕ). place + z) (sym i.gap_is) in
          record {
            so_far = rw (← q, y) (rw (n, u, le-ltb (place + gap_of pw e) free (rw q f), lt-leb rows (place + gap_of pw e) (rw q l)) at x.so_far);
            fitting = sym (large-next w pw es k e patch n i.patch-is h) ∙ x.fitting;
            low = omega arith;
          }

-- ---- the walk that puts the patches

patch-step : (w pw b e : ℕ) (out : List ℤ) (es : List ℕ) (t : Bool) → is_skip pw e ≡ t
    → patch_all w pw b out (e ∷ es)
    ≡ patch_all w pw (b + gap_of pw e) (pick t out (set out (b + gap_of pw e) (patched_row w (patch_of pw e) (get_or out (b + gap_of pw e) (pos 0))))) es
unfolding patch_all
patch-step w pw b e out es t h =
    ap (λ (x : Bool). patch_all w pw (b + gap_of pw e) (pick x out (set out (b + gap_of pw e) (patched_row w (patch_of pw e) (get_or out (b + gap_of pw e) (pos 0))))) es) h

module _ (w pw rows : ℕ) (es : List ℕ) (out₀ : List ℤ) where
  pub record Put (out : List ℤ) (k place : ℕ) : Type 0 where
    pub goes_on : patch_all w pw place out (drop k es) ≡ patch_all w pw 0 out₀ es
    pub long : length out ≡ length out₀
    pub low : place ≤ 511 + 255 * k
    pub free : ℕ
    pub skip : Bool
    pub in_place : misplaced pw rows place free skip (drop k es) ≡ false

  pub put_first : out_of_place pw rows es ≡ false → Put out₀ 0 0
  put_first h = record { goes_on = refl; long = refl; low = omega arith; free = 0; skip = false; in_place = misplaced-is pw rows es ∙ h }

  pub put_last : (out : List ℤ) (k place : ℕ) → Put out k place → length es ≤ k → out ≡ patch_all w pw 0 out₀ es
  unfolding patch_all
  put_last out k place p h = rw (drop_of_length-le es {i = k} h) at p.goes_on

  module _ (out : List ℤ) (k place e gap patch : ℕ) (t : Bool) (p : Put out k place) (n : drop k es ≡ e ∷ drop (k + 1) es) (i : IsEntry pw e gap patch t) where
    pub put-skip : t ≡ true → Put out (k + 1) (place + gap)
    unfolding misplaced
    put-skip y =
        let u : is_skip pw e ≡ true = sym i.skip_is ∙ y in
        let g : gap ≡ 255 = i.gap_is ∙ skip-gap pw e u in
        record {
          goes_on = rw i.gap_is (sym (patch-step w pw place e out (drop (k + 1) es) true u) ∙ rw n at p.goes_on);
          long = p.long;
          low = omega (arith, p.low);
          free = p.free;
          skip = true;
          in_place = rw i.gap_is (rw (n, u) at p.in_place);
        }

    -- an entry that is no skip names a row
    checked : t ≡ false
        → pick (ltb (place + gap) p.free || leb rows (place + gap)) true (misplaced pw rows (place + gap) (place + gap + 1) false (drop (k + 1) es)) ≡ false
    unfolding misplaced
    checked y = rw i.gap_is (rw (n, sym i.skip_is ∙ y) at p.in_place)

    passed : {a : Bool} (b : Bool) → pick b true a ≡ false → (b ≡ false) × (a ≡ false)
    passed true e = (e, never (cc))
    passed false e = (refl, e)

    pub put-inside : t ≡ false → place + gap < rows
    put-inside y =
        leb-false rows (place + gap) (neither (ltb (place + gap) p.free) (leb rows (place + gap)) (passed (ltb (place + gap) p.free || leb rows (place + gap)) (checked y)).0).1

    pub put-named : t ≡ false → rows ≤ 512 → (z : ℤ) → z ≡ patched_row w patch (get_or out (place + gap) (pos 0)) → Put (set out (place + gap) z) (k + 1) (place + gap)
    put-named y h z ez =
        let u : is_skip pw e ≡ false = sym i.skip_is ∙ y in
        record {
          goes_on = rw (ez, i.gap_is, i.patch-is) (sym (patch-step w pw place e out (drop (k + 1) es) false u) ∙ rw n at p.goes_on);
          long = length-set out (place + gap) z ∙ p.long;
          low = omega (arith, put-inside y);
          free = place + gap + 1;
          skip = false;
          in_place = (passed (ltb (place + gap) p.free || leb rows (place + gap)) (checked y)).1;
        }
