-- The theorems of writing patched runs. Assumes nothing.
use Rattle.format.proofs.Common.{◌≡◌, refl, sym, ◌∙◌, ℕ, ◌<◌, ◌≤◌, arith, Bool, List, map, length, length-map}
use Rattle.format.specs.Digits.{AllBelow}
use Rattle.format.specs.Fields.{two64, width, Block}
use Rattle.format.specs.Runs.{Valid, patches}
use Rattle.format.specs.Rows.{base_value}
use Rattle.format.specs.PatchedWriting.{differences, field, code_for, patch_code, gap_width, base_bytes, Parts, run, patches_in, entries_of, parts}
use Rattle.promises.specs.Patched.{Describes, NoBetter, Chosen, PatchedMeaningHolds}
use Rattle.promises.proofs.PatchedBase.{base-zero, same_base}
use Rattle.format.proofs.PatchedWriting.{width_same, code-found, qs-below, size_is}
use Rattle.promises.proofs.PatchedEntries.{same_entries, only-skips, above-some}
use Rattle.promises.proofs.PatchedValid.{Room, header-room, valid-room, its-patches, described-valid, described, is-width}
use Rattle.promises.proofs.PatchedLeast.{kept-is, gaps-256, its-lows, no-less-base, no-less-code, no-less-patch, no-less-list, no-less-gap, has_room}

same_block : (k l : Block) → k.values ≡ l.values → k.pad ≡ l.pad → k ≡ l
same_block k l a b = λ i. record { values = a i; pad = b i }

same_parts : (d e : Parts) → d.code ≡ e.code → d.base ≡ e.base → d.pc ≡ e.pc → d.gw ≡ e.gw → d.values ≡ e.values → d.list ≡ e.list → d ≡ e
same_parts d e a b c g k l = λ i. record { code = a i; base = b i; pc = c i; gw = g i; values = k i; list = l i }

module _ (signed : Bool) (base w : ℕ) (rs : List ℕ) (hb : base < two64) (hr : AllBelow two64 rs) (some : 1 ≤ length rs) (many : length rs ≤ 512) where
  the-chosen : Room (parts base w rs) → Chosen signed base w rs (parts base w rs)
  unfolding parts
  the-chosen r = record {
    describes = described base w rs r signed hb hr some many;
    only-skips = only-skips (width (patch_code (patches_in base w rs))) 0 (patches_in base w rs) (above-some w 0 (differences base rs)) (qs-below base w rs);
    no_sign = λ e. rw e base-zero;
    values-pad = refl;
    list-pad = refl;
    least = λ d e o. record {
      base-bytes = no-less-base signed base w rs hb d e;
      patch-width = λ _. no-less-patch signed base w rs hb d e;
      gap-width = λ _ _. no-less-gap signed base w rs hb d e o;
      entries = λ _ _ _. no-less-list signed base w rs hb d e;
    };
  }

  only-chosen : (d : Parts) → Chosen signed base w rs d → d ≡ parts base w rs
  unfolding parts patches
  only-chosen d c =
      let e : Describes signed base w rs d = c.describes in
      let r : Room (parts base w rs) = has_room signed base w rs hb d e in
      let p : Chosen signed base w rs (parts base w rs) = the-chosen r in
      let n : NoBetter d (parts base w rs) = c.least (parts base w rs) p.describes p.only-skips in
      let b : length (base_bytes base) ≡ length d.base = omega (arith, n.base-bytes, no-less-base signed base w rs hb d e) in
      let q : width (patch_code (patches_in base w rs)) ≡ width d.pc = omega (arith, n.patch-width b, no-less-patch signed base w rs hb d e) in
      let g : gap_width (entries_of base w rs) ≡ d.gw = omega (arith, n.gap-width b q, no-less-gap signed base w rs hb d e c.only-skips) in
      let v : Valid (run d) = e.valid in
      let hd : base_value d.base < two64 = rw e.has_base hb in
      let found : code_for w ≤ d.code = rw e.has_width at (code-found d.code v.head.code_fits) in
      let pc : patch_code (patches_in base w rs) ≡ d.pc = width_same _ d.pc (no-less-code signed base w rs hb d e) v.patch-code (omega (arith, q)) in
      let entries : d.list.values ≡ map (field (width d.pc)) (entries_of base w rs) =
      rw (kept-is signed base w rs hb d e)
      (same_entries (width d.pc) 0 d.list.values c.only-skips (gaps-256 signed base w rs hb d e)
      (rw (length-map (entries_of base w rs) (field _), kept-is signed base w rs hb d e) at (n.entries b q g))) in
      same_parts d (parts base w rs)
      (sym (width_same (code_for w) d.code found v.head.code_fits (omega (arith, e.has_width, is-width base w rs r))))
      (rw e.has_base at (same_base d.base v.some_bytes v.eight v.bytes (λ z. c.no_sign (sym e.has_base ∙ z))
      (rw e.has_base (omega (arith, b, size_is base w rs)))))
      (sym pc)
      (sym g)
      (same_block d.values _ (sym (rw (e.has_base, e.has_width, e.has-rows) at (its-lows signed d v hd))) c.values-pad)
      (same_block d.list _ (rw pc entries) c.list-pad)

pub patched-meaning : PatchedMeaningHolds
unfolding parts
patched-meaning signed base w rs hb hr some many =
    let d : Parts = parts base w rs in
    let room = header-room d in
    record {
      exactly-valid = (λ t. described-valid base w rs (room.0 t) some many, λ v. room.1 (valid-room d v));
      exactly-some = (λ t. (d, described base w rs (room.0 t) signed hb hr some many), λ s. room.1 (has_room signed base w rs hb s.0 s.1));
      chosen = λ t. the-chosen signed base w rs hb hr some many (room.0 t);
      only = λ d c. only-chosen signed base w rs hb hr some many d c;
      its-patches = its-patches base w rs;
      least-base = λ d e. no-less-base signed base w rs hb d e;
      least-patch = λ d e. no-less-patch signed base w rs hb d e;
      least-list = λ d e. no-less-list signed base w rs hb d e;
      least-gap = λ d e o. no-less-gap signed base w rs hb d e o;
    }
