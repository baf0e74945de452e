-- Any description of the same rows has the same patches, and no lesser widths. Assumes nothing.
use Rattle.format.proofs.Common.{◌≡◌, ℕ, ◌+◌, ◌^◌, ◌<◌, ◌≤◌, lt_of_le_of_lt, zero-add, mod-lt, arith, Bool, true, false, eqb, List, [], ◌∷◌}
use Rattle.format.proofs.Common.{map, length, length-map, pow_pos, pow_mono}
use Rattle.format.specs.Digits.{AllBelow}
use Rattle.format.specs.Fields.{pick, two64, width}
use Rattle.format.specs.Runs.{Patch, Valid, gap_of, patch_of, is_skip, patches, patches_from, last_is_skip, shared, outside, out_of_place}
use Rattle.format.specs.Rows.{base_value, rows_of, plus}
use Rattle.format.specs.Writing.{minus}
use Rattle.format.proofs.Rows.{width-le}
use Rattle.format.proofs.Steps.{map_back}
use Rattle.format.proofs.Again.{below-mono}
use Rattle.format.specs.PatchedWriting.{differences, lows, patches_above, field, Parts, run, patches_in, entries_of, parts}
use Rattle.promises.specs.Patched.{Describes, OnlySkips}
use Rattle.promises.proofs.PatchedBase.{base-least}
use Rattle.format.proofs.PatchedWriting.{width-mono, width-56, code-found, code-least, gap-least, gap-8, size_is}
use Rattle.format.proofs.Tests.{not_left, not_right}
use Rattle.promises.proofs.PatchedPlaces.{Rising, rises, sums, rows-sums, sums-below, kept, lows-sums, above-sums}
use Rattle.promises.proofs.PatchedEntries.{fewest, least-gaps}
use Rattle.promises.proofs.PatchedValid.{Room}

back : (base x : ℕ) → base < two64 → x < two64 → minus (plus base x) base ≡ x
back base x h l = omega arith

-- a list's patches have its patch width
patches-fit : (pw before : ℕ) (es : List ℕ) → AllBelow (2 ^ pw) (map (λ q. q.patch) (kept (patches_from pw before es)))
unfolding patches_from kept
patches-fit pw before [] = tt
patches-fit pw before (e ∷ es) = by (is_skip pw e) (patches_from pw (before + gap_of pw e) es) (patches-fit pw (before + gap_of pw e) es)
  where
    keep : (u : Bool) (qs : List Patch) → AllBelow (2 ^ pw) (map (λ q. q.patch) qs)
        → AllBelow (2 ^ pw) (map (λ q. q.patch) (pick u qs (record { place = before + gap_of pw e; patch = patch_of pw e } ∷ qs)))
    keep true qs h = h
    keep false qs h = (mod-lt e (pow_pos pw), h)

    by : (t : Bool) (qs : List Patch) → AllBelow (2 ^ pw) (map (λ q. q.patch) (kept qs))
        → AllBelow (2 ^ pw) (map (λ q. q.patch) (kept (pick t qs (record { place = before + gap_of pw e; patch = patch_of pw e } ∷ qs))))
    by true qs h = h
    by false qs h = keep (eqb (patch_of pw e) 0) (kept qs) h

-- ---- ANY DESCRIPTION OF THE SAME ROWS

module _ (signed : Bool) (d : Parts) (v : Valid (run d)) (hb : base_value d.base < two64) where
  abbrev its-qs : List Patch
  its-qs = patches (width d.pc) d.list.values

  abbrev its-differences : List ℕ
  its-differences = differences (base_value d.base) (rows_of signed (run d))

  its-sums : its-differences ≡ sums (width d.code) its-qs 0 d.values.values
  unfolding rows_of
  its-sums =
      rw (rows-sums (base_value d.base) (width d.code) its-qs 0 d.values.values)
      (map_back (λ r. minus r (base_value d.base)) (plus (base_value d.base)) two64 (λ x l. back (base_value d.base) x hb l) _
      (sums-below (width d.code) its-qs 0 d.values.values (width-le d.code) v.not-3 v.block.fits))

  its-rise : Rising 0 (0 + length d.values.values) its-qs
  unfolding patches out_of_place
  its-rise =
      let n = not_right (last_is_skip (width d.pc) d.list.values) _ v.not-7 in
      let rows : ℕ = length d.values.values in
      rw (zero-add rows) (rises (width d.pc) 0 rows d.list.values (not_left (shared its-qs) (outside rows its-qs) n)
      (not_right (shared its-qs) (outside rows its-qs) n))

  -- UNIQUE: its patches that are not 0 are what is above the low bits, and its values are these
  pub its-kept : patches_above (width d.code) 0 its-differences ≡ kept its-qs
  its-kept = rw its-sums (above-sums (width d.code) d.values.values its-qs 0 v.block.fits its-rise)

  pub its-lows : lows (width d.code) its-differences ≡ d.values.values
  its-lows = rw its-sums (lows-sums (width d.code) its-qs 0 d.values.values v.block.fits)

module _ (signed : Bool) (base w : ℕ) (rs : List ℕ) (hb : base < two64) (d : Parts) (e : Describes signed base w rs d) where
  pub kept-is : patches_in base w rs ≡ kept (patches (width d.pc) d.list.values)
  kept-is = rw (e.has_base, e.has_width, e.has-rows) at (its-kept signed d e.valid (rw e.has_base hb))

  pub gaps-256 : AllBelow 256 (map (gap_of (width d.pc)) d.list.values)
  gaps-256 = below-mono (2 ^ d.gw) 256 (pow_mono {j = 8} e.valid.gap-high) (map (gap_of (width d.pc)) d.list.values) e.gaps

  pub no-less-base : length (parts base w rs).base ≤ length d.base
  unfolding parts
  no-less-base = rw (size_is base w rs) (rw e.has_base at (base-least d.base e.valid.some_bytes e.valid.eight))

  pub no-less-code : (parts base w rs).pc ≤ d.pc
  unfolding parts patches
  no-less-code = code-least (patches_in base w rs) d.pc e.valid.patch-code (rw kept-is (patches-fit (width d.pc) 0 d.list.values))

  pub no-less-patch : width (parts base w rs).pc ≤ width d.pc
  no-less-patch = width-mono (parts base w rs).pc d.pc no-less-code e.valid.patch-code

  pub no-less-list : length (parts base w rs).list.values ≤ length d.list.values
  unfolding parts patches
  no-less-list = rw (length-map (entries_of base w rs) (field _), kept-is) (fewest (width d.pc) 0 d.list.values gaps-256)

  pub no-less-gap : OnlySkips (width d.pc) d.list.values → (parts base w rs).gw ≤ d.gw
  unfolding parts patches
  no-less-gap o =
      gap-least 0 (patches_in base w rs) d.gw e.valid.gap-low e.valid.gap-high
      (rw kept-is (least-gaps d.gw (width d.pc) 0 d.list.values o gaps-256 e.gaps))

  -- so the header has room: a patch width below 64 leaves 8 bits for the gaps
  pub has_room : Room (parts base w rs)
  unfolding parts
  has_room = record {
    code_fits = lt_of_le_of_lt (rw e.has_width at (code-found d.code e.valid.head.code_fits)) e.valid.head.code_fits;
    eight = omega (arith, no-less-base, e.valid.eight);
    not-2 = omega (arith, gap-8 0 (patches_in base w rs), width-56 (parts base w rs).pc (omega (arith, no-less-patch, e.valid.not-2, e.valid.gap-low)));
    entries_fit = omega (arith, no-less-list, e.valid.entries_fit);
  }
