-- What was found of a patched base run: it is refused, or it is all there; where its list stands, and what the run gives once its list has passed. Assumes nothing.
use mathlib.Core.Path.{◌≡◌, ◌∙◌}
use Prim.Native.Nat.{ℕ, ◌+◌, ◌-◌, ◌*◌, ◌<◌, ◌≤◌}
use native.Mathlib.Omega.{arith}
use mathlib.Core.Bool.{Bool}
use mathlib.Core.List.{List, ◌++◌, map}
use lib.ListN.{length, take, drop, length-drop}
use lib.IntN.{ℤ}
use Rattle.format.specs.Fields.{width, bytes_for}
use Rattle.format.specs.Runs.{Description, entry_width}
use Rattle.format.specs.Rows.{as_i64, base_value}
use Rattle.format.specs.Parse.{Parsed}
use Rattle.format.specs.Promises.{answer_of, Gives}
use Rattle.format.specs.Answers.{ran, refused_at}
use Rattle.format.specs.declared.Kind.TheVariants.{PatchedBase}
use Rattle.format.proofs.Widths.{width-pos}
use Rattle.format.proofs.Rows.{width-le}
use Rattle.format.proofs.Reading.{block_at}
use Rattle.rle_v2.specs.Pass.{based}
use Rattle.util.specs.Packed.{fields}
use Rattle.rle_v2.specs.PatchList.{Listed, list_number, patch_all}
use Rattle.rle_v2.specs.declared.patched_base.Found.{Found}
use Rattle.rle_v2.specs.declared.patched_base.Header.{Header}
use Rattle.rle_v2.specs.declared.patched_base.Widths.{Widths}
use Rattle.rle_v2.specs.declared.patched_base.Parts.{Parts}
use Rattle.rle_v2.specs.PatchedHead.{InRange, IsWidths, value_bytes, list_bytes, IsParts, Passed, Heads, head_of, widths_of, parts_of, number_of, Ready}
use Rattle.rle_v2.proofs.Blocks.{code-width, entry-width}
use Rattle.rle_v2.proofs.PatchRefusals.{none-refused}
use Rattle.rle_v2.proofs.PatchedRun.{refused-list, run_is, refused-8, read_is}

-- ---- a run whose tests have passed

-- the list stands where its walks look for it
pub listed-is : (s : List ℕ) (at : ℕ) (h : Header) (w : Widths) (q : Parts) → InRange h → IsWidths h w → w.patch + h.gap ≤ 64 → IsParts at h q → q.end.bytes ≤ length s
    → Listed w.entry w.patch h.entries (drop q.list.bytes s)
listed-is s at h w q i e f a l =
    let n : bytes_for (h.entries * w.entry) ≡ list_bytes h = rw e.entry-is in
    record {
      wide = rw e.entry-is (entry-width _);
      some = rw e.patch-is (width-pos _);
      few = omega (arith, i.some-gap);
      entries = i.entries;
      there = rw length-drop (omega (arith, a.list-is, a.end_is));
    }

module _ (s : List ℕ) (at : ℕ) (m : Parsed Description) (h : Header) (w : Widths) (q : Parts) (p : Passed s at m h w q) where
  pub all_in : at + 4 + h.base + value_bytes h + list_bytes h ≤ length s
  all_in = rw p.headed.parts.end_is at p.headed.there

  pub values-there : bytes_for (h.rows.rows * w.bits) ≤ length s - q.values.bytes
  values-there = rw (p.headed.widths.bits_is, p.headed.parts.values-is) (omega (arith, all_in))

  pub list-there : Listed w.entry w.patch h.entries (drop q.list.bytes s)
  list-there = listed-is s at h w q p.headed.fields_fit p.headed.widths p.headed.not-2 p.headed.parts p.headed.there

  fits : width h.patch + h.gap ≤ 64
  fits = rw p.headed.widths.patch-is at p.headed.not-2

  none : list_number (width h.code) (width h.patch) h.rows.rows (block_at s (at + 4 + h.base + value_bytes h) (entry_width h.patch h.gap) h.entries).values ≡ 0
  none = rw (p.headed.parts.list-is, p.headed.widths.entry-is, p.headed.widths.patch-is, p.headed.widths.bits_is) at p.list

  pub passed-answer : ran PatchedBase w.bits h.rows.rows (q.end.bytes - at) ≡ answer_of at (length s - at) m
  passed-answer =
      rw (p.headed.body, p.headed.widths.bits_is, p.headed.parts.end_is)
      (run_is s at h.code h.rows.rows h.base h.patch h.gap h.entries fits all_in none)

  module _ (signed : Bool) (out : List ℤ) where
    pub passed-8 : length out < h.rows.rows → Gives at (length s - at) signed m out out (refused_at 8 at)
    passed-8 l = rw p.headed.body (refused-8 s at h.code h.rows.rows h.base h.patch h.gap h.entries fits all_in none signed out l)

    pub passed-read : (one out' : List ℤ) → h.rows.rows ≤ length out
        → one ≡ based (base_value (take h.base (drop (at + 4) s))) (map as_i64 (fields w.bits h.rows.rows (drop q.values.bytes s))) ++ drop h.rows.rows out
        → out' ≡ patch_all w.bits w.patch 0 one (fields w.entry h.entries (drop q.list.bytes s))
        → Gives at (length s - at) signed m out out' (ran PatchedBase w.bits h.rows.rows (q.end.bytes - at))
    passed-read one out' l e f =
        rw (p.headed.body, p.headed.widths.bits_is, p.headed.parts.end_is)
        (read_is s at h.code h.rows.rows h.base h.patch h.gap h.entries fits all_in none signed out one out' l
        (rw (p.headed.parts.values-is, p.headed.widths.bits_is) at e)
        (rw (p.headed.parts.list-is, p.headed.widths.entry-is, p.headed.widths.patch-is, p.headed.widths.bits_is) at f))

-- ---- what was found, by the list's number

module _ (s : List ℕ) (at : ℕ) (m : Parsed Description) (f : Found) (e : Heads s at m f) where
  abbrev pub head : Header
  head = head_of e.code e.patch e.gap f

  pub found_in : at + 4 + f.base + value_bytes head + list_bytes head ≤ length s
  found_in = rw e.headed.parts.end_is at e.headed.there

  pub found-list : Listed f.entry f.patch f.entries (drop f.list.bytes s)
  found-list = listed-is s at head (widths_of f) (parts_of f) e.headed.fields_fit e.headed.widths e.headed.not-2 e.headed.parts e.headed.there

  pub found-3-7 : (number_of s f ≡ 0 → ⊥) → refused_at (number_of s f) at ≡ answer_of at (length s - at) m
  found-3-7 z =
      let p = e.headed in
      let n : number_of s f
      ≡ list_number (width e.code) (width e.patch) f.rows.rows (block_at s (at + 4 + f.base + value_bytes head) (entry_width e.patch e.gap) f.entries).values
      = rw (p.parts.list-is, p.widths.entry-is, p.widths.patch-is, p.widths.bits_is) in
      rw (p.body, n)
      (refused-list s at e.code f.rows.rows f.base e.patch e.gap f.entries (rw p.widths.patch-is at p.not-2) found_in (λ y. z (n ∙ y)))

  module _ (z : number_of s f ≡ 0) where
    pub passes : Passed s at m head (widths_of f) (parts_of f)
    passes = record { headed = e.headed; list = z }

    pub ready : Ready s at f
    ready =
        let p = e.headed in
        record {
          some_bytes = p.fields_fit.some_bytes;
          eight = p.fields_fit.eight;
          base_there = omega (arith, found_in);
          wide = rw p.widths.bits_is (code-width _);
          narrow = rw p.widths.bits_is (width-le _);
          rows = p.fields_fit.rows;
          values-in = omega (arith, found_in, p.parts.values-is);
          values-there = values-there s at m head (widths_of f) (parts_of f) passes;
          list-in = omega (arith, found_in, p.parts.list-is);
          list-there = found-list;
          in_place = (none-refused _ _ _ _ z).1;
        }
