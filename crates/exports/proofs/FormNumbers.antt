-- The writers' form and width as numbers. Assumes nothing.
use mathlib.Core.Path.{◌≡◌, refl}
use Prim.Native.Nat.{ℕ, zero, suc, ◌<◌, min}
use native.Mathlib.Omega.{arith}
use native.Mathlib.Decide.{dec_lt}
use mathlib.Core.Bool.{Bool, false, and-false}
use mathlib.Core.List.{List}
use lib.Dec.{leb}
use borrow.Author.Tests.{lt-leb, ne_eqb}
use Rattle.format.specs.declared.Form.{Form}
use Rattle.format.specs.declared.Form.TheVariants.{ShortRepeat, Direct, FixedDelta, PackedDelta}
use Rattle.format.specs.Writing.{have_form, width_allowed, writing}
use Rattle.exports.specs.Runs.{form_of}
use Rattle.format.specs.PatchedWriting.{writing_patched}
use Rattle.format.proofs.Kept.{no-code-kept, wide-not-kept}

-- from 3 on the form is the last
pub form-last : (n : ℕ) → 2 < n → form_of n ≡ PackedDelta
unfolding form_of
form-last zero h = absurd (omega arith)
form-last (suc zero) h = absurd (omega arith)
form-last (suc (suc zero)) h = absurd (omega arith)
form-last (suc (suc (suc n))) h = refl

-- a width above 31 is no form's
too_wide : (f : Form) (w : ℕ) → 31 < w → width_allowed f w ≡ false
too_wide ShortRepeat w h = rw (lt-leb w 8 (omega arith)) (and-false (leb 1 w))
too_wide Direct w h = no-code-kept w h
too_wide FixedDelta w h = ne_eqb w 0 (λ e. omega arith)
too_wide PackedDelta w h = rw (no-code-kept w h) (and-false (leb 1 w))

-- so all of them are answered alike
wide-alike : (signed : Bool) (f : Form) (v w : ℕ) (rs : List ℕ) (places : ℕ) → 31 < v → 31 < w → writing signed f v rs places ≡ writing signed f w rs places
unfolding writing
wide-alike signed f v w rs places g h = rw (too_wide f v g, too_wide f w h, and-false (have_form f rs))

pub width-least : (signed : Bool) (f : Form) (w : ℕ) (rs : List ℕ) (places : ℕ) → writing signed f (min w 255) rs places ≡ writing signed f w rs places
width-least signed f w rs places = by (dec_lt 255 w)
  where
    by : Dec (255 < w) → writing signed f (min w 255) rs places ≡ writing signed f w rs places
    by (yes h) = wide-alike signed f (min w 255) w rs places (omega arith) (omega arith)
    by (no h) =
        let e : min w 255 ≡ w = omega arith in
        rw e

-- ---- PATCHED: a width above 64 is not kept, and all of them are answered alike

no-table-alike : (base v w : ℕ) (rs : List ℕ) (places : ℕ) → 64 < v → 64 < w → writing_patched base v rs places ≡ writing_patched base w rs places
unfolding writing_patched
no-table-alike base v w rs places g h = rw (wide-not-kept v g, wide-not-kept w h)

pub patched-least : (base w : ℕ) (rs : List ℕ) (places : ℕ) → writing_patched base (min w 255) rs places ≡ writing_patched base w rs places
patched-least base w rs places = by (dec_lt 255 w)
  where
    by : Dec (255 < w) → writing_patched base (min w 255) rs places ≡ writing_patched base w rs places
    by (yes h) = no-table-alike base (min w 255) w rs places (omega arith) (omega arith)
    by (no h) =
        let e : min w 255 ≡ w = omega arith in
        rw e
