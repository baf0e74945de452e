-- The list stands where its walk looks for it, and what the walk refuses is what the run is refused with. Assumes nothing.
use native.Mathlib.Omega.{arith}
use mathlib.Core.Path.{◌∙◌}
use Rattle.format.proofs.Rows.{width-le}
use Rattle.format.proofs.Widths.{width-pos}
use Rattle.util.proofs.Grow.{rest-is}
use Rattle.rle_v2.proofs.PatchedFound.{found-list, found-3-7}
use Rattle.rle_v2.proofs.patched_base.checked.Goals as goal

pub invariant_of-patches-clause-listed : goal.invariant_of-patches-clause-listed
invariant_of-patches-clause-listed c =
    let a = c.args in
    rw (rest-is a.input.now c.in_ok-f.f.list.bytes) (found-list a.input.now a.at.bytes _ _ c.in_ok-f.ensures)

pub invariant_of-patches-clause-widths : goal.invariant_of-patches-clause-widths
invariant_of-patches-clause-widths c =
    let h = c.in_ok-f.ensures.headed in
    (rw h.widths.bits_is (width-pos _), rw h.widths.bits_is (width-le _), h.fields_fit.rows)

pub returns-in-Some : goal.returns-in-Some
returns-in-Some c =
    let a = c.args in
    let e = rw (rest-is a.input.now c.in_ok-f.f.list.bytes) at c.in-Some.ensures in
    rw (c.new.ensures, e.0) (found-3-7 a.input.now a.at.bytes _ _ c.in_ok-f.ensures (λ z. omega (arith, e.1, e.0 ∙ z)))
