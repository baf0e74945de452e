-- A segment that is not in place has no size; one in place has that of its rows, which the slice holds. Assumes nothing.
use mathlib.Core.Path.{◌≡◌}
use Prim.Native.Nat.{◌+◌, ◌-◌}
use native.Mathlib.Omega.{arith}
use lib.ListN.{length}
use Rattle.planner.specs.Check.{any_run}
use Rattle.planner.specs.Walk.{step_in}
use Rattle.planner.proofs.Steps.{size_none, step-elsewhere, within-is, step-here}
use Rattle.planner.proofs.segment.step_size.Goals as goal

pub returns-then-not-is_in_place : goal.returns-then-not-is_in_place
returns-then-not-is_in_place c =
    let a = c.args in
    size_none (step_in a.signed a.rows.now a.at.rows a.s any_run)
    (step-elsewhere a.signed a.rows.now a.at.rows a.s any_run _ c.is_in_place.ensures c.if-not-is_in_place.true)

pub returns : goal.returns
returns c =
    let a = c.args in
    let k : a.at.rows + a.s.count - a.at.rows ≡ a.s.count = omega arith in
    rw (step-here a.signed a.rows.now a.at.rows a.s any_run _ c.is_in_place.ensures c.if-not-is_in_place.false) (rw k at c.size.ensures)

pub overflow_add-row : goal.overflow_add-row
overflow_add-row c =
    let a = c.args in
    omega (arith, within-is a.at.rows (length a.rows.now) a.s _ c.is_in_place.ensures c.if-not-is_in_place.false)

pub offset_bounds-rows-row : goal.offset_bounds-rows-row
offset_bounds-rows-row c =
    let a = c.args in
    omega (arith, within-is a.at.rows (length a.rows.now) a.s _ c.is_in_place.ensures c.if-not-is_in_place.false)

pub slice_bounds-size-count : goal.slice_bounds-size-count
slice_bounds-size-count c =
    let a = c.args in
    omega (arith, within-is a.at.rows (length a.rows.now) a.s _ c.is_in_place.ensures c.if-not-is_in_place.false)

pub slice_bounds-size-start : goal.slice_bounds-size-start
slice_bounds-size-start c =
    let a = c.args in
    omega (arith, within-is a.at.rows (length a.rows.now) a.s _ c.is_in_place.ensures c.if-not-is_in_place.false)

pub slice_bounds-size-end : goal.slice_bounds-size-end
slice_bounds-size-end c =
    let a = c.args in
    omega (arith, within-is a.at.rows (length a.rows.now) a.s _ c.is_in_place.ensures c.if-not-is_in_place.false)
