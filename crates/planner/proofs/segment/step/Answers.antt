-- A segment that is not in place writes nothing; one in place writes its rows, which the slice holds. Assumes nothing.
use mathlib.Core.Path.{◌≡◌}
use Prim.Native.Nat.{◌+◌, ◌-◌}
use native.Mathlib.Omega.{arith}
use lib.ListN.{length}
use Rattle.planner.proofs.Steps.{ran-none, step-elsewhere, within-is, step-here}
use Rattle.planner.proofs.segment.step.Goals as goal

pub returns-then-not-is_in_place : goal.returns-then-not-is_in_place
returns-then-not-is_in_place c =
    let a = c.args in
    ran-none _ a.out.now
    (step-elsewhere a.signed a.rows.now a.at.rows a.s (length a.out.now) _ c.is_in_place.ensures c.if-not-is_in_place.true)

pub returns : goal.returns
returns c =
    let a = c.args in
    let k : a.at.rows + a.s.count - a.at.rows ≡ a.s.count = omega arith in
    rw (step-here a.signed a.rows.now a.at.rows a.s (length a.out.now) _ c.is_in_place.ensures c.if-not-is_in_place.false)
    (rw k at c.write.ensures)

pub overflow_add-row : goal.overflow_add-row
overflow_add-row c =
    let a = c.args in
    omega (arith, within-is a.at.rows (length a.rows.now) a.s _ c.is_in_place.ensures c.if-not-is_in_place.false)

pub offset_bounds-rows-row : goal.offset_bounds-rows-row
offset_bounds-rows-row c =
    let a = c.args in
    omega (arith, within-is a.at.rows (length a.rows.now) a.s _ c.is_in_place.ensures c.if-not-is_in_place.false)

pub slice_bounds-write-count : goal.slice_bounds-write-count
slice_bounds-write-count c =
    let a = c.args in
    omega (arith, within-is a.at.rows (length a.rows.now) a.s _ c.is_in_place.ensures c.if-not-is_in_place.false)

pub slice_bounds-write-start : goal.slice_bounds-write-start
slice_bounds-write-start c =
    let a = c.args in
    omega (arith, within-is a.at.rows (length a.rows.now) a.s _ c.is_in_place.ensures c.if-not-is_in_place.false)

pub slice_bounds-write-end : goal.slice_bounds-write-end
slice_bounds-write-end c =
    let a = c.args in
    omega (arith, within-is a.at.rows (length a.rows.now) a.s _ c.is_in_place.ensures c.if-not-is_in_place.false)
