-- No writer makes a run of more than 4,108 bytes. A patched list stands only beside values of 56 bits or fewer, which leave room for it; so 64-bit values
-- with a base of eight bytes are the longest, 4 + 8 + 512 * 8, whatever the rows are.
-- Assumes nothing.
use Rattle.format.proofs.Common.{◌≡◌, refl, sym, ◌∙◌, ℕ, zero, suc, ◌+◌, ◌*◌, ◌/◌, ◌^◌, ◌<◌, ◌≤◌, arith, dec_lt, Bool, true, false, not}
use Rattle.format.proofs.Common.{◌&&◌, List, [], ◌∷◌, map, length, replicate, length-map, length-replicate, ltb, ℤ, pos, ltb-true}
use Rattle.format.specs.Digits.{AllBelow}
use Rattle.format.specs.Fields
use Rattle.format.specs.Fields.{width, two64}
use Rattle.format.specs.Kept
use Rattle.format.specs.Kept.{is_kept_width}
use Rattle.format.specs.Runs.{Description, layout, entry_width}
use Rattle.format.specs.Rows.{as_u64}
use Rattle.format.specs.Parse.{Parsed, got, refused, plain, unless}
use Rattle.format.specs.Writing
use Rattle.format.specs.Writing.{between, AllI64}
use Rattle.format.specs.PatchedWriting
use Rattle.format.specs.PatchedWriting.{differences, patches_above, code_for, base_size, patches_in, Parts, run, parts, header_holds, writing_patched}
use Rattle.format.proofs.Rows.{byte_count, bytes_count}
use Rattle.format.proofs.Widths.{least-le, width-window}
use Rattle.format.proofs.Tests.{never, between_le, T_true, and_right}
use Rattle.format.proofs.Runs.{got-inj}
use Rattle.format.proofs.PatchedWriting.{ds-below, length-ds, size_is}
use Rattle.promises.specs.LongestWritten.{AsLong, LongestWritten}
use Rattle.promises.proofs.PatchedValid.{Room, header-room, is-width}
use Rattle.promises.proofs.LongestByForm.{fields_le, written-le, written-room}

-- ---- at 64 bits nothing is above, so that there is no list

none_above : (p : ℕ) (ds : List ℕ) → AllBelow two64 ds → patches_above 64 p ds ≡ []
unfolding patches_above
none_above p [] h = refl
none_above p (d ∷ ds) h =
    let e : d / 2 ^ 64 ≡ 0 = omega (arith, h.0) in
    rw e (none_above (suc p) ds h.1)

module _ (base : ℕ) (rs : List ℕ) where
  no-patch : patches_in base 64 rs ≡ []
  no-patch = none_above 0 (differences base rs) (ds-below base 64 rs)

  no-list : length (parts base 64 rs).list.values ≡ 0
  unfolding parts PatchedWriting.entries_from
  no-list = rw no-patch

module _ (base w : ℕ) (rs : List ℕ) where
  abbrev p : Parts
  p = parts base w rs

  module _ (r : Room p) (h : length rs ≤ 512) where
    values-le : (b : ℕ) → w ≤ b → length p.values.values * width p.code ≤ 512 * b
    unfolding parts
    values-le b l = rw (is-width base w rs r, length-ds base w rs) (fields_le (length rs) w 512 b h l)

    list-le : (m : ℕ) → length p.list.values ≤ m → length p.list.values * entry_width p.pc p.gw ≤ m * 64
    list-le m l = fields_le (length p.list.values) (entry_width p.pc p.gw) m 64 l (least-le (width p.pc + p.gw))

    patched-le : length (layout (run p)) ≤ 4108
    patched-le = rw (bytes_count (run p)) (by (dec_lt 56 w))
      where
        by : Dec (56 < w) → byte_count (run p) ≤ 4108
        by (yes l) =
            let e : w ≡ 64 = sym (is-width base w rs r) ∙ width-window (code_for w) (rw (is-width base w rs r) l) in
            omega (arith, r.eight, values-le 64 (omega arith), list-le 0 (rw e (omega (arith, no-list base rs))))
        by (no l) = omega (arith, r.eight, values-le 56 (omega arith), list-le 31 (omega (arith, r.entries_fit)))

  -- what the three tests let through
  record Bounded (places : ℕ) (m : Parsed Description) : Type 0 where
    no_longer : (d : Description) (rest : List ℕ) → m ≡ got d rest → length (layout d) ≤ 4108
    never-8 : 4108 ≤ places → m ≡ refused (plain 8) → ⊥

  bounded : (places : ℕ) → Bounded places (writing_patched base w rs places)
  unfolding writing_patched
  bounded places = go (between 1 512 (length rs)) (is_kept_width w && header_holds p) (ltb places (length (layout (run p)))) refl refl refl
    where
      other : (n : ℕ) → (n ≡ 8 → ⊥) → Bounded places (refused (plain n))
      other n h = record { no_longer = λ d rest e. never (cc); never-8 = λ l e. let z : n ≡ 8 = cc in h z }

      go : (a b few : Bool) → between 1 512 (length rs) ≡ a → (is_kept_width w && header_holds p) ≡ b → ltb places (length (layout (run p))) ≡ few
          → Bounded places (unless (not a) 9 (unless (not b) 10 (unless few 8 (got (run p) []))))
      go false b few s t u = other 9 (λ e. omega arith)
      go true false few s t u = other 10 (λ e. omega arith)
      go true true few s t u =
          by few u (patched-le ((header-room p).0 (and_right (is_kept_width w) (header_holds p) (rw t tt)))
          (between_le 1 512 (length rs) (rw s tt)).1)
        where
          by : (few : Bool) → ltb places (length (layout (run p))) ≡ few → length (layout (run p)) ≤ 4108 → Bounded places (unless few 8 (got (run p) []))
          by true u l = record {
            no_longer = λ d rest e. never (cc);
            never-8 = λ h e. omega (arith, ltb-true places (length (layout (run p))) u);
          }
          by false u l = record { no_longer = λ d rest e. rw (← (got-inj e).0) l; never-8 = λ h e. never (cc) }

-- ---- any 512 rows at 64 bits, with a base of eight bytes

module _ (base : ℕ) (rs : List ℕ) (s : base_size base ≡ 8) (n : length rs ≡ 512) where
  has_room : Room (parts base 64 rs)
  unfolding parts PatchedWriting.entries_from PatchedWriting.code_for PatchedWriting.patch_code PatchedWriting.gap_width
      PatchedWriting.least_from Writing.every Fields.width Fields.widths
  has_room = record {
    code_fits = omega arith;
    eight = rw (size_is base 64 rs, s) (omega arith);
    not-2 = rw (no-patch base rs) (omega arith);
    entries_fit = omega (arith, no-list base rs);
  }

  as_long : length (layout (run (parts base 64 rs))) ≡ 4108
  unfolding parts
  as_long = rw (
    bytes_count (run (parts base 64 rs)),
    is-width base 64 rs has_room,
    length-ds base 64 rs,
    n,
    size_is base 64 rs,
    s,
    no-list base rs,
  ) (omega arith)

  is-formed : (is_kept_width 64 && header_holds (parts base 64 rs)) ≡ true
  unfolding Kept.is_kept_width Kept.kept_widths Kept.among
  is-formed = T_true (header_holds (parts base 64 rs)) ((header-room (parts base 64 rs)).1 has_room)

  in-4108 : (writing_patched base 64 rs 4108 ≡ got (run (parts base 64 rs)) []) × (writing_patched base 64 rs 4107 ≡ refused (plain 8))
  unfolding writing_patched
  in-4108 = (rw (n, is-formed, as_long), rw (n, is-formed, as_long))

i64-zeros : (n : ℕ) → AllI64 (replicate n (pos 0))
i64-zeros zero = tt
i64-zeros (suc n) = (record { sfits = omega arith }, i64-zeros n)

-- 512 zeros, with base 2^55
reached : AsLong
unfolding PatchedWriting.base_size PatchedWriting.least_from
reached =
    let rows : List ℤ = replicate 512 (pos 0) in
    let n : length (map as_u64 rows) ≡ 512 = length-map rows as_u64 ∙ length-replicate 512 (pos 0) in
    let e = in-4108 (2 ^ 55) (map as_u64 rows) refl n in
    record {
      rows = rows;
      base = pos (2 ^ 55);
      w = 64;
      i64-rows = i64-zeros 512;
      i64-base = record { sfits = omega arith };
      run = run (parts (2 ^ 55) 64 (map as_u64 rows));
      is-written = e.0;
      bytes = as_long (2 ^ 55) (map as_u64 rows) refl n;
      one_less = e.1;
    }

pub longest-written : LongestWritten
longest-written = record {
  no_longer = λ signed f w rs places d rest e. omega (arith, written-le signed f w rs places d rest e);
  no-longer-patched = λ base w rs places. (bounded base w rs places).no_longer;
  never-8 = λ signed f w rs places h. written-room signed f w rs places (omega arith);
  never-8-patched = λ base w rs places. (bounded base w rs places).never-8;
  reached = reached;
}
