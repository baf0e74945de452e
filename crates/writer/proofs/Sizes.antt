-- What the size of a run tells, and the size by the tests. Assumes nothing.
use Rattle.format.proofs.Common.{◌≡◌, refl, sym, ◌∙◌, ℕ, ◌≤◌, arith, Bool, true, false, not, ◌&&◌, and-true, and-false, List, length}
use Rattle.format.proofs.Common.{le-ltb}
use Rattle.format.specs.declared.Form.{Form}
use Rattle.format.specs.Runs.{Description, layout}
use Rattle.format.specs.Parse.{Parsed, unless}
use Rattle.format.specs.Writing.{count_allowed, have_form, width_allowed, fit_width, described, writing}
use Rattle.format.proofs.Tests.{never}
use Rattle.std.specs.Prelude.{Option, None, Some}
use Rattle.format.specs.declared.ByteOffset.{ByteOffset}
use Rattle.writer.specs.Sizes.{size_in, bytes_of, Sized, Measured, unfit, fit, SizeDetermined}
use Rattle.writer.proofs.Pieces.{Allowed}

module _ (signed : Bool) (f : Form) (w : ℕ) (rs : List ℕ) where
  -- ---- of a run that has bytes

  pub fits_width : {n : ℕ} → Sized signed f w rs n → 1 ≤ n → fit_width signed f w rs ≡ true
  fits_width (unfit e) h = absurd (omega arith)
  fits_width (fit a e l b c) h = e

  pub sized-as : {n : ℕ} → Sized signed f w rs n → 1 ≤ n → n ≡ length (layout (described signed f w rs))
  sized-as (unfit e) h = absurd (omega arith)
  sized-as (fit a e l b c) h = l

  -- ---- and of one that has none: where the width is no matter, the form is

  pub has-form : {n : ℕ} → Sized signed f w rs n → n ≡ 0 → fit_width signed f w rs ≡ true → have_form f rs ≡ false
  has-form (unfit e) h k = sym (and-true (have_form f rs)) ∙ rw k at e
  has-form (fit a e l b c) h k = absurd (omega arith)

  pub none : Sized signed f w rs 0 → Measured signed f w rs None
  none (unfit e) = e
  none (fit a e l b c) = absurd (omega arith)

  -- ---- of any rows: no more is asked than the writer asks

  refused-both : (h t : Bool) (m : Parsed Description) → h && t ≡ false → 0 ≡ size_in (unless (not (h && true)) 10 (unless (not t) 11 m))
  refused-both false t m e = refl
  refused-both true false m e = refl
  refused-both true true m e = never (cc)

  pub no-count : count_allowed f (length rs) ≡ false → 0 ≡ size_in (writing signed f w rs 4356)
  unfolding writing
  no-count e = rw e

  pub no-width : count_allowed f (length rs) ≡ true → width_allowed f w ≡ false → 0 ≡ size_in (writing signed f w rs 4356)
  unfolding writing
  no-width c e = rw (c, e, and-false (have_form f rs))

  sized : Allowed f (length rs) w → {n : ℕ} → Sized signed f w rs n → n ≡ size_in (writing signed f w rs 4356)
  unfolding writing
  sized k (unfit e) = rw (k.count, k.width) (refused-both (have_form f rs) (fit_width signed f w rs) _ e)
  sized k (fit h e l a b) = rw (k.count, k.width, h, e, le-ltb 4356 (length (layout (described signed f w rs))) (rw l at b)) l

  pub measured : Allowed f (length rs) w → (r : Option ByteOffset) → Measured signed f w rs r → bytes_of r ≡ size_in (writing signed f w rs 4356)
  measured k None e = sized k (unfit e)
  measured k (Some b) m = sized k m.0

pub size-determined : SizeDetermined
size-determined rows signed f w r r' p q = p ∙ sym q
