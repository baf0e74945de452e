-- The header of the run that is written: none where a field has no room in it, and else its fields with the values and the list. Assumes nothing.
use Rattle.format.proofs.Common.{◌≡◌, ap, ℕ, ◌+◌, ◌-◌, ◌*◌, ◌^◌, ◌<◌, ◌≤◌, arith, true, false, and-false, List, map, leb, ltb, ltb→lt, ℤ}
use Rattle.format.proofs.Common.{length, take, length-map, pow_pos, lt-ltb, le-ltb, lt-leb, le-leb}
use Rattle.format.specs.Answers.{Answer, refused_at}
use Rattle.format.specs.Digits.{digits}
use Rattle.format.specs.Rows.{as_u64}
use Rattle.format.specs.Fields.{width}
use Rattle.format.specs.Writing.{padded, between}
use Rattle.format.specs.Kept.{is_kept_width}
use Rattle.format.specs.PatchedWriting.{differences, lows, field, code_for, patch_code, gap_width, magnitude, base_size, base_bytes, Parts}
use Rattle.format.specs.PatchedWriting.{patches_in, entries_of, parts, header_holds, writing_patched, PatchedWritten}
use Rattle.format.proofs.Least.{least-passes}
use Rattle.format.proofs.Widths.{least-holds}
use Rattle.format.proofs.PatchedWriting.{below-mods, size_low, size_is, code-width, width-56, gap-1, gap-8, gap-holds, es-below, fields-below}
use Rattle.writer.specs.declared.patched_base.Header.{Header}
use Rattle.writer.specs.PatchedBase.{sign_magnitude, headed, Headed, PatchedLaid}

-- ---- a field that has no room

module _ (base w : ℕ) (rs : List ℕ) where
  abbrev d : Parts
  d = parts base w rs

  pub no_code : 31 < code_for w → header_holds d ≡ false
  unfolding parts
  no_code h = rw (le-ltb (code_for w) 32 (omega arith))

  pub no-base : 8 < base_size base → header_holds d ≡ false
  unfolding parts
  no-base h = rw (size_is base w rs, lt-leb (base_size base) 8 h) (and-false (ltb (code_for w) 32))

  pub no_gap : width (patch_code (patches_in base w rs)) ≡ 64 → header_holds d ≡ false
  unfolding parts
  no_gap e =
      rw (e, lt-leb (64 + gap_width (entries_of base w rs)) 64 (omega (arith, gap-1 0 (patches_in base w rs))), and-false (leb (length (base_bytes base)) 8))
      (and-false (ltb (code_for w) 32))

  pub no-list : 31 < length (entries_of base w rs) → header_holds d ≡ false
  unfolding parts
  no-list h =
      rw (
        length-map (entries_of base w rs) (field (width (patch_code (patches_in base w rs)))),
        le-ltb (length (entries_of base w rs)) 32 (omega arith),
        and-false (leb (width (patch_code (patches_in base w rs)) + gap_width (entries_of base w rs)) 64),
        and-false (leb (length (base_bytes base)) 8),
      )
      (and-false (ltb (code_for w) 32))

  -- ---- all of them have room: the values and the list stand in the first places

  module _ (h : Header) (vals list : List ℕ) (code : h.code ≡ code_for w) (rows : h.rows.rows ≡ length rs) (size : h.base.bytes ≡ base_size base)
      (patch : h.patch ≡ patch_code (patches_in base w rs)) (gap : h.gap ≡ gap_width (entries_of base w rs)) (entries : h.entries ≡ length (entries_of base w rs))
      (values : take h.rows.rows vals ≡ lows w (differences base rs))
      (fields : take h.entries list ≡ map (field (width h.patch)) (entries_of base w rs)) where
    same_parts : headed h base vals list ≡ d
    unfolding parts base_bytes
    same_parts =
        let fs : take h.entries list ≡ map (field (width (patch_code (patches_in base w rs)))) (entries_of base w rs) = rw patch at fields in
        λ i. record {
          code = code i;
          base = ap (λ (n : ℕ). digits 256 n (sign_magnitude base n)) size i;
          pc = patch i;
          gw = gap i;
          values = padded (values i);
          list = padded (fs i);
        }

    pub all_held : code_for w < 32 → 1 ≤ length rs → length rs ≤ 512 → length rs ≤ length vals → base_size base ≤ 8 → h.patch < 32 → (width h.patch ≡ 64 → ⊥)
        → width h.patch ≤ 64 → h.entries ≤ 31 → h.entries ≤ length list → Headed base w rs vals list h
    unfolding parts base_size
    all_held c some many there eight p n le few l =
        let g₁ = gap-1 0 (patches_in base w rs) in
        let g₈ = gap-8 0 (patches_in base w rs) in
        let pw : width h.patch ≤ 56 = width-56 h.patch (omega (arith, n)) in
        let pw₂ : width (patch_code (patches_in base w rs)) ≤ 56 = rw patch at pw in
        record {
          ready = record {
            code = omega (arith, code);
            some-rows = omega (arith, rows);
            rows = omega (arith, rows);
            rows-there = omega (arith, rows);
            some_bytes = omega (arith, size, size_low base);
            eight = omega (arith, size);
            base-fits = rw size (ltb→lt _ _ (least-passes (λ n. ltb (magnitude base) (2 ^ (8 * n - 1))) 1 8 (omega arith)));
            patch = p;
            some-gap = omega (arith, gap);
            gap = omega (arith, gap);
            widths = omega (arith, gap);
            entries = few;
            entries-there = l;
            values-fit = rw (values, code, code-width w c) (below-mods (λ x. x) (2 ^ w) (pow_pos w) (differences base rs));
            list-fits = rw (fields, patch, gap) (fields-below (width (patch_code (patches_in base w rs))) (gap_width (entries_of base w rs)) _
                (entries_of base w rs) (least-holds _ (omega arith)) (gap-holds 0 (patches_in base w rs)) (es-below base w rs));
          };
          same = same_parts;
          holds =
              rw (
                lt-ltb (code_for w) 32 c,
                size_is base w rs,
                le-leb (base_size base) 8 eight,
                le-leb (width (patch_code (patches_in base w rs)) + gap_width (entries_of base w rs)) 64 (omega arith),
                length-map (entries_of base w rs) (field (width (patch_code (patches_in base w rs)))),
                lt-ltb (length (entries_of base w rs)) 32 (omega (arith, entries)),
              );
        }

-- ---- from the header to the promise: 9, then 10, then 8 or the run

module _ (rows : List ℤ) (base : ℤ) (w : ℕ) (out : List ℕ) (r : Answer) where
  pub bad-count : between 1 512 (length rows) ≡ false → r ≡ refused_at 9 0 → PatchedWritten rows base w out out r
  unfolding writing_patched
  bad-count c e = record { answer = rw (length-map rows as_u64, c) e; places = rw (length-map rows as_u64, c) }

  module _ (some : 1 ≤ length rows) (many : length rows ≤ 512) where
    counted : between 1 512 (length (map as_u64 rows)) ≡ true
    counted = rw (length-map rows as_u64) (simp (le-leb 1 (length rows) some, le-leb (length rows) 512 many))

    pub bad-width : is_kept_width w ≡ false → r ≡ refused_at 10 0 → PatchedWritten rows base w out out r
    unfolding writing_patched
    bad-width k e = record { answer = rw (counted, k) e; places = rw (counted, k) }

    pub bad-form : is_kept_width w ≡ true → header_holds (parts (as_u64 base) w (map as_u64 rows)) ≡ false → r ≡ refused_at 10 0
        → PatchedWritten rows base w out out r
    unfolding writing_patched
    bad-form k h e = record { answer = rw (counted, k, h) e; places = rw (counted, k, h) }

    pub formed : (out' : List ℕ) → is_kept_width w ≡ true → header_holds (parts (as_u64 base) w (map as_u64 rows)) ≡ true
        → PatchedLaid (parts (as_u64 base) w (map as_u64 rows)) out out' r
        → PatchedWritten rows base w out out' r
    unfolding writing_patched
    formed out' k h l = record { answer = rw (counted, k, h) l.answer; places = rw (counted, k, h) l.places }
