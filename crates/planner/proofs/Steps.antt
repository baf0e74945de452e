-- One segment, by its form's writer. Assumes nothing.
use mathlib.Core.Path.{◌≡◌, refl, sym, ap, ◌∙◌}
use Prim.Native.Nat.{ℕ, zero, suc, ◌-◌, ◌<◌, ◌≤◌}
use native.Mathlib.Omega.{arith}
use mathlib.Core.Bool.{Bool, true, false, not, and-false}
use mathlib.Core.List.{List, [], map}
use lib.ListN.{length, take, drop}
use lib.Dec.{leb, eqb, leb→le}
use lib.IntN.{ℤ}
use borrow.Author.Tests.{lt-leb, ne_eqb, le-leb, eqb-true}
use Rattle.format.specs.declared.Form.{Form}
use Rattle.format.specs.declared.Form.TheVariants.{ShortRepeat, Direct, FixedDelta, PackedDelta}
use Rattle.format.specs.Fields.{two64}
use Rattle.format.specs.Runs.{Description}
use Rattle.format.specs.Rows.{as_i64, as_u64}
use Rattle.format.specs.Parse.{plain, Parsed, end, got, refused, unless}
use Rattle.format.specs.Answers.{Answer, answer_bytes}
use Rattle.format.specs.Promises.{answer_of}
use Rattle.format.specs.Writing.{between, count_allowed, have_form, width_allowed, writing, bytes_in, Written}
use Rattle.format.specs.PatchedWriting.{writing_patched, PatchedWritten}
use Rattle.format.proofs.Kept.{no-code-kept, wide-not-kept}
use Rattle.format.proofs.Patterns.{as-back}
use Rattle.format.proofs.Tests.{never, both}
use Rattle.writer.specs.Sizes.{size_in}
use Rattle.planner.specs.declared.segment.Segment.{Segment}
use Rattle.planner.specs.Check.{write_in, is_run}
use Rattle.planner.specs.Walk.{form_of, in_place, step_in, Ran}

-- ---- nothing accepted: no bytes, and nothing touched

pub ran-none : (m : Parsed Description) (out : List ℕ) → is_run m ≡ false → Ran m out out 0
ran-none end out e = record { size = refl; places = refl }
ran-none (got d rest) out e = never (cc)
ran-none (refused r) out e = record { size = refl; places = refl }

-- whichever of the two applies
no_second : (a : Bool) → is_run (unless a 9 (refused (plain 10))) ≡ false
no_second true = refl
no_second false = refl

-- no form has a width above 255
too_wide : (f : Form) (w : ℕ) → 255 < w → width_allowed f w ≡ false
too_wide ShortRepeat w h = rw (le-leb 1 w (omega arith), lt-leb w 8 (omega arith))
too_wide Direct w h = no-code-kept w (omega arith)
too_wide FixedDelta w h = ne_eqb w 0 (λ e. omega arith)
too_wide PackedDelta w h = rw (le-leb 1 w (omega arith), no-code-kept w (omega arith))

run-wide : (signed : Bool) (f : Form) (w : ℕ) (rs : List ℕ) (room : ℕ) → 255 < w → is_run (writing signed f w rs room) ≡ false
unfolding writing
run-wide signed f w rs room h = rw (too_wide f w h, and-false (have_form f rs)) (no_second (not (count_allowed f (length rs))))

patched-wide : (base w : ℕ) (rs : List ℕ) (room : ℕ) → 255 < w → is_run (writing_patched base w rs room) ≡ false
unfolding writing_patched
patched-wide base w rs room h = rw (wide-not-kept w (omega arith)) (no_second (not (between 1 512 (length rs))))

pub none-wide : (signed : Bool) (form width base : ℕ) (part : List ℤ) (room : ℕ) → 255 < width → is_run (write_in signed form width base part room) ≡ false
unfolding write_in
none-wide signed zero width base part room h = run-wide signed ShortRepeat width (map as_u64 part) room h
none-wide signed (suc zero) width base part room h = run-wide signed Direct width (map as_u64 part) room h
none-wide signed (suc (suc zero)) width base part room h = run-wide signed FixedDelta width (map as_u64 part) room h
none-wide signed (suc (suc (suc zero))) width base part room h = run-wide signed PackedDelta width (map as_u64 part) room h
none-wide signed (suc (suc (suc (suc zero)))) width base part room h = patched-wide base width (map as_u64 part) room h
none-wide signed (suc (suc (suc (suc (suc n))))) width base part room h = refl

pub no-form : (signed : Bool) (form width base : ℕ) (part : List ℤ) (room : ℕ) → 4 < form → is_run (write_in signed form width base part room) ≡ false
unfolding write_in
no-form signed zero width base part room h = absurd (omega arith)
no-form signed (suc zero) width base part room h = absurd (omega arith)
no-form signed (suc (suc zero)) width base part room h = absurd (omega arith)
no-form signed (suc (suc (suc zero))) width base part room h = absurd (omega arith)
no-form signed (suc (suc (suc (suc zero)))) width base part room h = absurd (omega arith)
no-form signed (suc (suc (suc (suc (suc n))))) width base part room h = refl

-- ---- by the form's writer

told-size : (m : Parsed Description) → answer_bytes (answer_of 0 0 m) ≡ size_in m
told-size end = refl
told-size (got d rest) = refl
told-size (refused r) = refl

-- the writer's promise, told by its bytes
pub ran : (m : Parsed Description) (out out' : List ℕ) (a : Answer) → a ≡ answer_of 0 0 m → out' ≡ bytes_in out m → Ran m out out' (answer_bytes a)
ran m out out' a e p = record { size = ap (λ (x : Answer). answer_bytes x) e ∙ told-size m; places = p }

-- .. and its bytes alone, where it has none
pub size_none : (m : Parsed Description) → is_run m ≡ false → 0 ≡ size_in m
size_none m e = (ran-none m [] e).size

pub by_form : (signed : Bool) (form width base : ℕ) (part : List ℤ) (room : ℕ) → form < 4
    → write_in signed form width base part room ≡ writing signed (form_of form) width (map as_u64 part) room
unfolding write_in form_of
by_form signed zero width base part room h = refl
by_form signed (suc zero) width base part room h = refl
by_form signed (suc (suc zero)) width base part room h = refl
by_form signed (suc (suc (suc zero))) width base part room h = refl
by_form signed (suc (suc (suc (suc n)))) width base part room h = absurd (omega arith)

module _ (signed : Bool) (form width base : ℕ) (part : List ℤ) (out out' : List ℕ) (a : Answer) where
  pub ran-form : form < 4 → Written part signed (form_of form) width out out' a → Ran (write_in signed form width base part (length out)) out out' (answer_bytes a)
  ran-form h w =
      rw (by_form signed form width base part (length out) h)
      (ran (writing signed (form_of form) width (map as_u64 part) (length out)) out out' a w.answer w.places)

  pub ran-patched : form ≡ 4 → base < two64 → PatchedWritten part (as_i64 base) width out out' a
      → Ran (write_in signed form width base part (length out)) out out' (answer_bytes a)
  unfolding write_in
  ran-patched e hb w =
      let v : Ran (writing_patched (as_u64 (as_i64 base)) width (map as_u64 part) (length out)) out out' (answer_bytes a) =
      ran (writing_patched (as_u64 (as_i64 base)) width (map as_u64 part) (length out)) out out' a w.answer w.places in
      rw e (rw (as-back base hb) at v)

-- ---- where it stands

-- it begins at this row, and ends within the column
pub here-is : (at rows : ℕ) (s : Segment) (b : Bool) → b ≡ in_place rows at s → b ≡ true → s.start ≡ at
here-is at rows s b e h = eqb-true s.start at (both (eqb s.start at) (leb s.count (rows - at)) (sym e ∙ h)).0

pub within-is : (at rows : ℕ) (s : Segment) (b : Bool) → b ≡ in_place rows at s → b ≡ true → s.count ≤ rows - at
within-is at rows s b e h = leb→le s.count (rows - at) (rw (both (eqb s.start at) (leb s.count (rows - at)) (sym e ∙ h)).1 tt)

module _ (signed : Bool) (rows : List ℤ) (at : ℕ) (s : Segment) (room : ℕ) where
  pub step-elsewhere : (b : Bool) → b ≡ in_place (length rows) at s → b ≡ false → is_run (step_in signed rows at s room) ≡ false
  unfolding step_in
  step-elsewhere b e h = rw (← e, h)

  pub step-here : (b : Bool) → b ≡ in_place (length rows) at s → b ≡ true
      → step_in signed rows at s room ≡ write_in signed s.form s.width s.base (take s.count (drop at rows)) room
  unfolding step_in
  step-here b e h = rw (sym e ∙ h, here-is at (length rows) s b e h)

pub form-packed : (n : ℕ) → (n ≡ 0 → ⊥) → (n ≡ 1 → ⊥) → (n ≡ 2 → ⊥) → PackedDelta ≡ form_of n
unfolding form_of
form-packed zero a b c = absurd (a refl)
form-packed (suc zero) a b c = absurd (b refl)
form-packed (suc (suc zero)) a b c = absurd (c refl)
form-packed (suc (suc (suc n))) a b c = refl
