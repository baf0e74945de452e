use mathlib.Core.Path.{refl, ◌∙◌}
use native.Mathlib.Omega.{arith}
use Rattle.totals.proofs.Onward.{onward-first, ends-le, onward-open, onward-on, onward-stop}
use Rattle.totals.proofs.taking.take_block.Goals as goal

pub returns-then-end-input : goal.returns-then-end-input
returns-then-end-input c = onward-open _ _ _ _ _ c.loop-totals.invariant.1 c.line_end-end.ensures c.if-end-input.true

pub slice_bounds-take_line-count : goal.slice_bounds-take_line-count
slice_bounds-take_line-count c = omega (arith, c.line_end-end.ensures)

pub slice_bounds-take_line-start : goal.slice_bounds-take_line-start
slice_bounds-take_line-start c = omega (arith, c.line_end-end.ensures)

pub slice_bounds-take_line-end : goal.slice_bounds-take_line-end
slice_bounds-take_line-end c = ends-le _ _ _ _ _ c.loop-totals.invariant.1 c.line_end-end.ensures

pub take_line-requires : goal.take_line-requires
take_line-requires c =
    c.loop-totals.invariant.0 ∙ c.requires

pub shape_of-rows-in-Err : goal.shape_of-rows-in-Err
shape_of-rows-in-Err c =
    c.take_line.auto.rows ∙ c.loop-totals.invariant.0

pub returns-in-Err : goal.returns-in-Err
returns-in-Err c =
    rw (c.stopped.ensures.next, c.stopped.ensures.totals)
    (onward-stop _ _ _ _ _ c.loop-totals.invariant.1 c.line_end-end.ensures c.if-end-input.false c.in-Err.stop c.in-Err.ensures)

pub overflow_add-from : goal.overflow_add-from
overflow_add-from c =
    omega (arith, ends-le _ _ _ _ _ c.loop-totals.invariant.1 c.line_end-end.ensures)

pub loop-totals-smaller : goal.loop-totals-smaller
loop-totals-smaller c =
    omega (arith, c.line_end-end.ensures, ends-le _ _ _ _ _ c.loop-totals.invariant.1 c.line_end-end.ensures)

pub loop-totals-preserved : goal.loop-totals-preserved
loop-totals-preserved c =
    (c.take_line.auto.rows ∙ c.loop-totals.invariant.0, onward-on _ _ _ _ _ c.loop-totals.invariant.1 c.line_end-end.ensures c.if-end-input.false c.in-Ok.more c.in-Ok.ensures)

pub loop-totals-init : goal.loop-totals-init
loop-totals-init c = (refl, onward-first _ _)

pub shape_of-rows-then-end-input : goal.shape_of-rows-then-end-input
shape_of-rows-then-end-input c = c.loop-totals.invariant.0
