-- A width or a form that no run has is refused; the rest is what the form's own writer promises. Assumes nothing.
use native.Mathlib.Omega.{arith}
use lib.ListN.{length}
use mir.Facts.{to_z-of_z}
use borrow.Author.Rules.{sfits_of, rules}
use Rattle.planner.proofs.Steps.{ran-none, none-wide, no-form, ran-form, ran-patched}
use Rattle.format.proofs.Common.{w64}
use Rattle.format.proofs.Patterns.{as-to_z}
use Rattle.planner.proofs.segment.write.Goals as goal

pub returns-then-s-gt255 : goal.returns-then-s-gt255
returns-then-s-gt255 c =
    let a = c.args in
    ran-none _ a.out.now (none-wide a.signed a.s.form a.s.width a.s.base a.part.now (length a.out.now) c.if-s-gt255.true)

pub returns-then-s-gt4 : goal.returns-then-s-gt4
returns-then-s-gt4 c =
    let a = c.args in
    ran-none _ a.out.now (no-form a.signed a.s.form a.s.width a.s.base a.part.now (length a.out.now) c.if-s-gt4.true)

pub returns-then-s-eq4 : goal.returns-then-s-eq4
returns-then-s-eq4 c =
    let a = c.args in
    let v = rw (to_z-of_z {w = w64} (sfits_of c.cast_signed.type_inv), c.cast_signed.ensures, as-to_z c.args.s.base (omega arith)) at c.write_patched-a.ensures in
    rw c.consumed.ensures
    (ran-patched a.signed a.s.form a.s.width a.s.base a.part.now a.out.now _ _ c.if-s-eq4.true
    (search rules) v)

pub returns : goal.returns
returns c =
    let a = c.args in
    let v = rw c.form_of.ensures at c.write_run-a.ensures in
    rw c.consumed-2.ensures (ran-form a.signed a.s.form a.s.width a.s.base a.part.now a.out.now _ _
    (omega (arith, c.if-s-eq4.false, c.if-s-gt4.false)) v)
