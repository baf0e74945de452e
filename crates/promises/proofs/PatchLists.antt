-- Every patch list: refusal 3, or refusal 7 in one of its three cases, or 8 for want of room, or exactly the places named are patched.
-- Assumes nothing.
use Rattle.format.proofs.Common.{◌≡◌, refl, sym, ap, ◌∙◌, ℕ, ◌+◌, ◌-◌, ◌*◌, ◌%◌, ◌^◌, ◌<◌, ◌≤◌, zero-mul, add-zero, dec_lt, arith, Bool}
use Rattle.format.proofs.Common.{true, false, not, List, ◌++◌, length, get_or, drop, List·getD-append, List·getD-map, drop_at, T, T_not, ℤ}
use Rattle.format.proofs.Common.{pos}
use Rattle.format.specs.Answers.{Answer, refused_at}
use Rattle.format.specs.Fields.{two64, width, Block, IsBlock}
use Rattle.format.specs.Runs.{patched, Valid, layout, patches_from, patches, last_is_skip, shared, outside, too_large, out_of_place, entry_width}
use Rattle.format.specs.Rows.{base_value, patch_at, rows_of, as_i64, i64_rows}
use Rattle.format.specs.Parse.{plain, got, refused, unless, parse, into}
use Rattle.format.specs.Promises.{RunRead}
use Rattle.format.proofs.Reading.{gives-8}
use Rattle.format.proofs.Fields.{any-block}
use Rattle.format.proofs.RunComplete.{no_list, patched-read}
use Rattle.format.proofs.Rows.{i64-count}
use Rattle.format.proofs.Streams.{into-got, into-refused}
use Rattle.format.proofs.Tests.{not_left, not_right}
use Rattle.promises.specs.PatchLists.{TooLarge, OutOfPlace, Patched, EitherWay, with-3, with-7, with-8, with_rows, PatchLists}
use Rattle.promises.proofs.Sums.{sums}
use Rattle.promises.proofs.PatchCases.{patch-there, patch-none, named-from, from_named, too_large_lem, out-of-place}

-- ---- the rows of a list that is in place

module _ (code : ℕ) (base : List ℕ) (pc gw : ℕ) (k l : Block) (out out' : List ℤ) (signed : Bool)
    (places : out' ≡ i64_rows signed (patched code base pc gw k l) ++ drop (length k.values) out) where
  row-at : (p : ℕ) → p < length k.values
      → get_or out' p (pos 0) ≡ as_i64 ((base_value base + (get_or k.values p 0 + patch_at p (patches (width pc) l.values) * 2 ^ width code)) % two64)
  unfolding i64_rows as_i64
  row-at p h =
      rw (
        places,
        List·getD-append (i64_rows signed (patched code base pc gw k l)) (drop (length k.values) out) (pos 0) p
            (omega (arith, i64-count signed (patched code base pc gw k l))),
      )
      (List·getD-map as_i64 (rows_of signed (patched code base pc gw k l)) p 0 ∙ ap as_i64 (sums.patched-row signed code base pc gw k l p h))

  rows-patched : T (not (out_of_place (width pc) (length k.values) l.values)) → (p : ℕ) → p < length k.values → Patched code base pc k l out' p
  unfolding out_of_place patches
  rows-patched n p h =
      let es : List ℕ = l.values in
      let m : T (not (shared (patches_from (width pc) 0 es))) =
      not_left (shared (patches_from (width pc) 0 es)) (outside (length k.values) (patches_from (width pc) 0 es))
      (not_right (last_is_skip (width pc) es) _ n) in
      record {
        named = λ j f. row-at p h ∙ rw (patch-there (width pc) 0 es j p (from_named (width pc) es j p f) m);
        other = λ f. row-at p h ∙ rw (patch-none (width pc) 0 es p (λ j g. f j (named-from (width pc) es j p g)), zero-mul, add-zero);
      }

-- ---- the four outcomes

module _ (code : ℕ) (base : List ℕ) (pc gw : ℕ) (k l : Block) (v : Valid (patched code base pc gw k no_list)) (few : length l.values < 32)
    (list : IsBlock (entry_width pc gw) (length l.values) l) (input : List ℕ) (at : ℕ) (signed : Bool) (out out' : List ℤ) (r : Answer)
    (h : RunRead input at signed out out' r) (behind : List ℕ) (e : drop at input ≡ layout (patched code base pc gw k l) ++ behind) where
  abbrev large : Bool
  large = too_large (width code) (patches (width pc) l.values)

  abbrev misplaced : Bool
  misplaced = out_of_place (width pc) (length k.values) l.values

  read : parse (drop at input) ≡ unless large 3 (unless misplaced 7 (got (patched code base pc gw k l) behind))
  read = ap parse e ∙ patched-read code base pc gw k l behind v few list

  refused-with : (n : ℕ) → parse (drop at input) ≡ refused (plain n) → (r ≡ refused_at n at) × (out' ≡ out)
  refused-with n q = (rw (q, into-refused (length out)) at h.answer, rw (q, into-refused (length out)) at h.places)

  no-large : large ≡ false → TooLarge (width code) (width pc) l.values → ⊥
  no-large s o = T_not large (rw s tt) ((too_large_lem (width pc) (width code) l.values).1 o)

  none-misplaced : misplaced ≡ false → OutOfPlace (width pc) (length k.values) l.values → ⊥
  none-misplaced t o = T_not misplaced (rw t tt) ((out-of-place (width pc) (length k.values) l.values).1 o)

  by-room : large ≡ false → misplaced ≡ false → Dec (length out < length k.values) → EitherWay code base pc gw k l at out out' r
  by-room s t (yes n) =
      let g = gives-8 at (length input - at) signed (parse (drop at input)) out (patched code base pc gw k l) behind (read ∙ rw (s, t)) n in
      with-8 (record {
        fitting = no-large s;
        in_place = none-misplaced t;
        no_room = n;
        answer = h.answer ∙ sym g.answer;
        places = h.places ∙ sym g.places;
      })
  by-room s t (no n) =
      let room : length k.values ≤ length out = omega arith in
      let q : into (length out) (parse (drop at input)) ≡ got (patched code base pc gw k l) behind =
      ap (into (length out)) (read ∙ rw (s, t)) ∙ into-got (length out) (patched code base pc gw k l) behind room in
      let places : out' ≡ i64_rows signed (patched code base pc gw k l) ++ drop (length k.values) out = rw q at h.places in
      with_rows (record {
        fitting = no-large s;
        in_place = none-misplaced t;
        room = room;
        answer = rw q at h.answer;
        rows = rows-patched code base pc gw k l out out' signed places (rw t tt);
        others =
            ap (drop (length k.values)) places
            ∙ drop_at (i64_rows signed (patched code base pc gw k l)) (drop (length k.values) out) (length k.values)
            (i64-count signed (patched code base pc gw k l));
      })

  by-list : (s t : Bool) → large ≡ s → misplaced ≡ t → EitherWay code base pc gw k l at out out' r
  by-list true t s₁ t₁ =
      let (a, p) = refused-with 3 (read ∙ rw s₁) in
      with-3 (record { too_large = (too_large_lem (width pc) (width code) l.values).0 (rw s₁ tt); answer = a; places = p })
  by-list false true s₁ t₁ =
      let (a, p) = refused-with 7 (read ∙ rw (s₁, t₁)) in
      with-7 (record {
        fitting = no-large s₁;
        out-of-place = (out-of-place (width pc) (length k.values) l.values).0 (rw t₁ tt);
        answer = a;
        places = p;
      })
  by-list false false s₁ t₁ = by-room s₁ t₁ (dec_lt (length out) (length k.values))

pub patch-lists : PatchLists
patch-lists = record {
  any-bytes = λ w n bs h e. (_, (any-block w n bs h e).0, (any-block w n bs h e).1);
  either_way = λ code base pc gw k l v few list input at signed out out' r h behind e.
      by-list code base pc gw k l v few list input at signed out out' r h behind e _ _ refl refl;
}
