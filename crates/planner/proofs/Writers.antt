-- The writers of all forms: what they accept depends on the room only by its length, stands for the rows, and has no width above 255. Assumes nothing.
use mathlib.Core.Path.{◌≡◌, refl, sym, ap, subst, ◌∙◌}
use Prim.Native.Nat.{ℕ, zero, suc, ◌%◌, ◌^◌, ◌<◌, ◌≤◌}
use native.Mathlib.Omega.{arith}
use mathlib.Core.Bool.{Bool, true, false, not, ◌&&◌}
use mathlib.Core.List.{List, [], map}
use lib.ListN.{length, length-map}
use lib.Dec.{T, ltb}
use lib.IntN.{ℤ}
use borrow.Author.Tests.{ltb-false, le-ltb}
use Rattle.format.specs.declared.Form.{Form}
use Rattle.format.specs.declared.Form.TheVariants.{ShortRepeat, Direct, FixedDelta, PackedDelta}
use Rattle.format.specs.Fields.{two64}
use Rattle.format.specs.Kept.{is_kept_width}
use Rattle.format.specs.Runs.{Description, Valid, row_count, layout}
use Rattle.format.specs.Rows.{i64_rows, as_i64, as_u64}
use Rattle.format.specs.Parse.{Parsed, got, unless}
use Rattle.format.specs.Writing.{stored, minus, base_delta, falls, values_of, described, between, count_allowed, have_form, width_allowed, fit_width, writing, AllI64}
use Rattle.format.specs.PatchedWriting.{differences, run, parts, header_holds, writing_patched}
use Rattle.format.proofs.Rows.{byte-bounds}
use Rattle.format.proofs.Runs.{got-inj}
use Rattle.format.proofs.Tests.{never, between_le}
use Rattle.format.proofs.Steps.{later-steps}
use Rattle.format.proofs.Writing.{reads-back, patterns-lt, patterns-back}
use Rattle.promises.proofs.PatchedValid.{header-room, described as patched-described}
use Rattle.planner.specs.Check.{any_run, write_in}
use Rattle.planner.specs.Laws.{RoomForAny}

-- ---- room

-- the answer of a writer in some room: that it has room, and the answer in any other that has
pub record InRoom (write : ℕ → Parsed Description) (room : ℕ) (d : Description) (rest : List ℕ) : Type 0 where
  pub fits : length (layout d) ≤ room
  pub elsewhere : (room' : ℕ) → length (layout d) ≤ room' → write room' ≡ got d rest

-- three tests, and room
abbrev tested : Bool → Bool → Bool → Description → ℕ → Parsed Description
tested a b c d room = unless a 9 (unless b 10 (unless c 11 (unless (ltb room (length (layout d))) 8 (got d []))))

tested-run : (a b c : Bool) (d : Description) (room : ℕ) {d' : Description} {rest : List ℕ} → tested a b c d room ≡ got d' rest
    → InRoom (tested a b c d) room d' rest
tested-run true b c d room e = never (cc)
tested-run false true c d room e = never (cc)
tested-run false false true d room e = never (cc)
tested-run false false false d room {d'} {rest} e = go (ltb room (length (layout d))) refl e
  where
    go : (t : Bool) → ltb room (length (layout d)) ≡ t → unless t 8 (got d []) ≡ got d' rest → InRoom (tested false false false d) room d' rest
    go true f e = never (cc)
    go false f e =
        let n : length (layout d) ≡ length (layout d') = ap (λ (x : Description). length (layout x)) (got-inj e).0 in
        record {
          fits = omega (arith, n, ltb-false room (length (layout d)) f);
          elsewhere = λ room' l. rw (le-ltb room' (length (layout d)) (omega (arith, n))) e;
        }

run-in-room : (signed : Bool) (f : Form) (w : ℕ) (rs : List ℕ) (room : ℕ) {d : Description} {rest : List ℕ}
    → writing signed f w rs room ≡ got d rest → InRoom (writing signed f w rs) room d rest
unfolding writing
run-in-room signed f w rs room e =
    tested-run (not (count_allowed f (length rs))) (not (have_form f rs && width_allowed f w)) (not (fit_width signed f w rs)) (described signed f w rs) room e

patched-in-room : (base w : ℕ) (rs : List ℕ) (room : ℕ) {d : Description} {rest : List ℕ}
    → writing_patched base w rs room ≡ got d rest → InRoom (writing_patched base w rs) room d rest
unfolding writing_patched
patched-in-room base w rs room e =
    tested-run (not (between 1 512 (length rs))) (not (is_kept_width w && header_holds (parts base w rs))) false (run (parts base w rs)) room e

pub in-room : (signed : Bool) (form width base : ℕ) (part : List ℤ) (room : ℕ) {d : Description} {rest : List ℕ}
    → write_in signed form width base part room ≡ got d rest → InRoom (write_in signed form width base part) room d rest
unfolding write_in
in-room signed zero width base part room e = run-in-room signed ShortRepeat width (map as_u64 part) room e
in-room signed (suc zero) width base part room e = run-in-room signed Direct width (map as_u64 part) room e
in-room signed (suc (suc zero)) width base part room e = run-in-room signed FixedDelta width (map as_u64 part) room e
in-room signed (suc (suc (suc zero))) width base part room e = run-in-room signed PackedDelta width (map as_u64 part) room e
in-room signed (suc (suc (suc (suc zero)))) width base part room e = patched-in-room base width (map as_u64 part) room e
in-room signed (suc (suc (suc (suc (suc n))))) width base part room e = never (cc)

-- ---- a run has as many rows as are given

described-rows : (signed : Bool) (f : Form) (w : ℕ) (rs : List ℕ) → T (count_allowed f (length rs)) → row_count (described signed f w rs) ≡ length rs
unfolding described values_of
described-rows signed ShortRepeat w rs h = refl
described-rows signed Direct w rs h = length-map rs (stored signed)
described-rows signed FixedDelta w rs h = refl
described-rows signed PackedDelta w rs h = later-steps (falls (base_delta rs)) rs (between_le 2 512 (length rs) h).0

run-rows : (signed : Bool) (f : Form) (w : ℕ) (rs : List ℕ) (room : ℕ) {d : Description} {rest : List ℕ}
    → writing signed f w rs room ≡ got d rest → row_count d ≡ length rs
unfolding writing
run-rows signed f w rs room {d} {rest} e =
    go (count_allowed f (length rs)) (have_form f rs && width_allowed f w) (fit_width signed f w rs) (ltb room (length (layout (described signed f w rs)))) refl e
  where
    go : (a b c few : Bool) → count_allowed f (length rs) ≡ a
        → unless (not a) 9 (unless (not b) 10 (unless (not c) 11 (unless few 8 (got (described signed f w rs) [])))) ≡ got d rest → row_count d ≡ length rs
    go false b c few z e = never (cc)
    go true false c few z e = never (cc)
    go true true false few z e = never (cc)
    go true true true true z e = never (cc)
    go true true true false z e = ap (λ (x : Description). row_count x) (sym (got-inj e).0) ∙ described-rows signed f w rs (rw z tt)

-- ---- what is accepted is a run, and stands for the rows

-- the tests of the patched writer
patched-held : (base w : ℕ) (rs : List ℕ) (room : ℕ) {d : Description} {rest : List ℕ} → writing_patched base w rs room ≡ got d rest
    → (run (parts base w rs) ≡ d) × T (between 1 512 (length rs)) × T (header_holds (parts base w rs))
unfolding writing_patched
patched-held base w rs room {d} {rest} e =
    go (between 1 512 (length rs)) (is_kept_width w) (header_holds (parts base w rs)) (ltb room (length (layout (run (parts base w rs))))) e
  where
    go : (a k h few : Bool) → unless (not a) 9 (unless (not (k && h)) 10 (unless few 8 (got (run (parts base w rs)) []))) ≡ got d rest
        → (run (parts base w rs) ≡ d) × T a × T h
    go false k h few e = never (cc)
    go true false h few e = never (cc)
    go true true false few e = never (cc)
    go true true true true e = never (cc)
    go true true true false e = ((got-inj e).0, tt, tt)

patched-rows : (base w : ℕ) (rs : List ℕ) (room : ℕ) {d : Description} {rest : List ℕ} → writing_patched base w rs room ≡ got d rest → row_count d ≡ length rs
unfolding parts
patched-rows base w rs room e =
    ap (λ (x : Description). row_count x) (sym (patched-held base w rs room e).0) ∙ length-map (differences base rs) (λ d. d % 2 ^ w)
    ∙ length-map rs (λ r. minus r base)

pub rows-given : (signed : Bool) (form width base : ℕ) (part : List ℤ) (room : ℕ) {d : Description} {rest : List ℕ}
    → write_in signed form width base part room ≡ got d rest → row_count d ≡ length part
unfolding write_in
rows-given signed zero width base part room e = run-rows signed ShortRepeat width (map as_u64 part) room e ∙ length-map part as_u64
rows-given signed (suc zero) width base part room e = run-rows signed Direct width (map as_u64 part) room e ∙ length-map part as_u64
rows-given signed (suc (suc zero)) width base part room e = run-rows signed FixedDelta width (map as_u64 part) room e ∙ length-map part as_u64
rows-given signed (suc (suc (suc zero))) width base part room e = run-rows signed PackedDelta width (map as_u64 part) room e ∙ length-map part as_u64
rows-given signed (suc (suc (suc (suc zero)))) width base part room e = patched-rows base width (map as_u64 part) room e ∙ length-map part as_u64
rows-given signed (suc (suc (suc (suc (suc n))))) width base part room e = never (cc)

-- under the flag
pub record StandsFor (signed : Bool) (part : List ℤ) (d : Description) : Type 0 where
  pub valid : Valid d
  pub rows_are : i64_rows signed d ≡ part

by-writer : (signed : Bool) (f : Form) (w : ℕ) (part : List ℤ) (room : ℕ) {d : Description} {rest : List ℕ} → AllI64 part
    → writing signed f w (map as_u64 part) room ≡ got d rest → StandsFor signed part d
by-writer signed f w part room h e = let b = reads-back signed f w part room h e in record { valid = b.0; rows_are = b.2 }

module _ (base w : ℕ) (part : List ℤ) (room : ℕ) {d : Description} {rest : List ℕ} (e : writing_patched base w (map as_u64 part) room ≡ got d rest) where
  abbrev held : (run (parts base w (map as_u64 part)) ≡ d) × T (between 1 512 (length (map as_u64 part))) × T (header_holds (parts base w (map as_u64 part)))
  held = patched-held base w (map as_u64 part) room e

  abbrev counted : (1 ≤ length (map as_u64 part)) × (length (map as_u64 part) ≤ 512)
  counted = between_le 1 512 (length (map as_u64 part)) held.1

  by-patched : (signed : Bool) → AllI64 part → base < two64 → StandsFor signed part d
  unfolding i64_rows
  by-patched signed h hb =
      let g = patched-described base w (map as_u64 part) ((header-room (parts base w (map as_u64 part))).0 held.2) signed hb
      (patterns-lt part h) counted.0 counted.1 in
      record { valid = subst Valid held.0 g.valid; rows_are = ap (i64_rows signed) (sym held.0) ∙ ap (map as_i64) g.has-rows ∙ patterns-back part h }

pub stands : (signed : Bool) (form width base : ℕ) (part : List ℤ) (room : ℕ) {d : Description} {rest : List ℕ} → AllI64 part → base < two64
    → write_in signed form width base part room ≡ got d rest → StandsFor signed part d
unfolding write_in
stands signed zero width base part room h hb e = by-writer signed ShortRepeat width part room h e
stands signed (suc zero) width base part room h hb e = by-writer signed Direct width part room h e
stands signed (suc (suc zero)) width base part room h hb e = by-writer signed FixedDelta width part room h e
stands signed (suc (suc (suc zero))) width base part room h hb e = by-writer signed PackedDelta width part room h e
stands signed (suc (suc (suc (suc zero)))) width base part room h hb e = by-patched base width part room e signed h hb
stands signed (suc (suc (suc (suc (suc n))))) width base part room h hb e = never (cc)

pub room-for-any : RoomForAny
room-for-any signed form width base part room d rest h hb = (
  λ e.
      let r = in-room signed form width base part room e in
      (r.elsewhere any_run (byte-bounds d (stands signed form width base part room h hb e).valid), r.fits),
  λ p. (in-room signed form width base part any_run p.0).elsewhere room p.1,
)
