-- What is written of a patched run is a valid description of the rows where the header has room for it. Assumes nothing.
use Rattle.format.proofs.Common.{◌≡◌, refl, sym, ◌∙◌, ◌↔◌, ℕ, ◌+◌, ◌-◌, ◌%◌, ◌^◌, ◌<◌, ◌≤◌, zero-lt-suc, zero-add, arith, Bool, not, List}
use Rattle.format.proofs.Common.{map, length, length-map, T, leb, ltb, ltb→lt, lt→ltb, leb→le, le→leb, pow_pos, shr_lt}
use Rattle.format.specs.Digits.{AllBelow}
use Rattle.format.specs.Fields.{two64, width}
use Rattle.format.specs.Runs.{Patch, Valid, patches, shared, outside, out_of_place, too_large}
use Rattle.format.specs.Rows.{rows_of, plus}
use Rattle.format.specs.Writing.{minus}
use Rattle.format.proofs.Digits.{digits-below}
use Rattle.format.proofs.Widths.{least-holds}
use Rattle.format.proofs.Rows.{width-le}
use Rattle.format.proofs.Steps.{map_back}
use Rattle.format.proofs.Tests.{and_i, and_left, and_right, or-not}
use Rattle.format.specs.PatchedWriting.{differences, lows, entries_from, field, code_for, patch_code, gap_width, base_size, base_bytes, Parts}
use Rattle.format.specs.PatchedWriting.{run, patches_in, parts, header_holds}
use Rattle.promises.specs.Patched.{Describes}
use Rattle.promises.proofs.PatchedBase.{base-value}
use Rattle.format.proofs.PatchedWriting.{size_low, below-mods, code-width, code_fits, gap-8, gap-1, gap-holds, fields-below, fields-gaps}
use Rattle.format.proofs.PatchedWriting.{qs-64, qs-below, es-below, length-ds, size_is, above-below, ds-below}
use Rattle.promises.proofs.PatchedPlaces.{Rising, rising-unshared, rising_inside, rows-sums, above-rises, sums-above}
use Rattle.promises.proofs.PatchedEntries.{entries-read, last-no-skip, above-some, above-small}

there : (base x : ℕ) → base < two64 → x < two64 → plus base (minus x base) ≡ x
there base x h l = omega arith

-- ---- the header's room

pub record Room (d : Parts) : Type 0 where
  pub code_fits : d.code < 32
  pub eight : length d.base ≤ 8
  pub not-2 : width d.pc + d.gw ≤ 64
  pub entries_fit : length d.list.values < 32

pub header-room : (d : Parts) → T (header_holds d) ↔ Room d
header-room d = (
  λ t.
      let u = and_right (ltb d.code 32) _ t in
      let v = and_right (leb (length d.base) 8) _ u in
      record {
        code_fits = ltb→lt d.code 32 (and_left (ltb d.code 32) _ t);
        eight = leb→le (length d.base) 8 (and_left (leb (length d.base) 8) _ u);
        not-2 = leb→le (width d.pc + d.gw) 64 (and_left (leb (width d.pc + d.gw) 64) _ v);
        entries_fit = ltb→lt (length d.list.values) 32 (and_right (leb (width d.pc + d.gw) 64) _ v);
      },
  λ r.
      and_i (ltb d.code 32) _ (lt→ltb _ _ r.code_fits) (and_i (leb (length d.base) 8) _ (le→leb _ _ r.eight)
      (and_i (leb (width d.pc + d.gw) 64) _ (le→leb _ _ r.not-2) (lt→ltb _ _ r.entries_fit))),
)

pub valid-room : (d : Parts) → Valid (run d) → Room d
valid-room d v = record { code_fits = v.head.code_fits; eight = v.eight; not-2 = v.not-2; entries_fit = v.entries_fit }

-- ---- WHAT IS WRITTEN

module _ (base w : ℕ) (rs : List ℕ) where
  abbrev ds : List ℕ
  ds = differences base rs

  abbrev qs : List Patch
  qs = patches_in base w rs

  abbrev pw : ℕ
  pw = width (patch_code qs)

  qs-rise : Rising 0 (length (lows w ds)) qs
  qs-rise =
      let e : length (lows w ds) ≡ 0 + length ds = length-map ds (λ d. d % 2 ^ w) ∙ sym (zero-add (length ds)) in
      rw e (above-rises w 0 ds)

  pub its-patches : patches pw (map (field pw) (entries_from 0 qs)) ≡ qs
  unfolding patches
  its-patches = entries-read pw 0 (length (lows w ds)) qs qs-rise (above-some w 0 ds) (qs-below base w rs)

  in_place : T (not (out_of_place pw (length (lows w ds)) (map (field pw) (entries_from 0 qs))))
  unfolding out_of_place
  in_place =
      rw (last-no-skip pw 0 qs (above-some w 0 ds) (qs-below base w rs), its-patches)
      (or-not (shared qs) (outside (length (lows w ds)) qs) (rising-unshared 0 (length (lows w ds)) qs qs-rise)
      (rising_inside 0 (length (lows w ds)) qs qs-rise))

  -- not too large: what is above w bits has 64 - w
  small : w ≤ 64 → T (not (too_large w qs))
  small h =
      let e : 64 - w + w ≡ 64 = omega arith in
      above-small w qs (above-below (2 ^ (64 - w)) two64 w 0 ds (λ d l. shr_lt (64 - w) w (rw e l)) (ds-below base w rs))

  module _ (r : Room (parts base w rs)) where
    pub is-width : width (code_for w) ≡ w
    unfolding parts
    is-width = code-width w r.code_fits

    pub described-valid : 1 ≤ length rs → length rs ≤ 512 → Valid (run (parts base w rs))
    unfolding parts base_bytes
    described-valid some many = record {
      head = record { code_fits = r.code_fits; some-rows = omega (arith, length-ds base w rs); rows_fit = omega (arith, length-ds base w rs) };
      some_bytes = omega (arith, size_is base w rs, size_low base);
      eight = r.eight;
      bytes = digits-below 256 (zero-lt-suc 255) (base_size base) _;
      patch-code = code_fits qs (qs-64 base w rs);
      gap-low = gap-1 0 qs;
      gap-high = gap-8 0 qs;
      entries_fit = r.entries_fit;
      not-2 = r.not-2;
      block = record { count = refl; fits = rw is-width (below-mods (λ d. d) (2 ^ w) (pow_pos w) ds); pad_fits = pow_pos _ };
      list = record {
        count = refl;
        fits = fields-below pw (gap_width (entries_from 0 qs)) _ (entries_from 0 qs) (least-holds _ r.not-2)
            (gap-holds 0 qs) (es-below base w rs);
        pad_fits = pow_pos _;
      };
      not-3 = rw (is-width, its-patches) (small (rw is-width at (width-le (code_for w))));
      not-7 = in_place;
    }

    pub described : (signed : Bool) → base < two64 → AllBelow two64 rs → 1 ≤ length rs → length rs ≤ 512 → Describes signed base w rs (parts base w rs)
    unfolding parts rows_of
    described signed hb hr some many = record {
      valid = described-valid some many;
      has_base = base-value base hb (rw (size_is base w rs) at r.eight);
      has_width = is-width;
      gaps = fields-gaps pw _ (entries_from 0 qs) (gap-holds 0 qs) (es-below base w rs);
      has-rows =
          rw (base-value base hb (rw (size_is base w rs) at r.eight), is-width, its-patches, rows-sums base w qs 0 (lows w ds), sums-above w 0 ds)
          (map_back (plus base) (λ r. minus r base) two64 (λ x l. there base x hb l) rs hr);
    }
