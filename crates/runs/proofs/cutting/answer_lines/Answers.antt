use Rattle.std.proofs.Common.{arith}
use Rattle.runs.proofs.Lines.{going-first, going-full, going-open, end-le, answer-fits, going_on}
use Rattle.util.proofs.Grow.{rest-is}
use Rattle.runs.proofs.cutting.answer_lines.Goals as goal

pub shape_of-out-then-end-input : goal.shape_of-out-then-end-input
shape_of-out-then-end-input c = c.loop-out.invariant.long

pub returns-then-end-input : goal.returns-then-end-input
returns-then-end-input c =
    let l = c.loop-out in
    let a = c.args in
    going-open a.input.now a.out.now l.out l.taken l.written l.invariant _ c.line_end-end.ensures c.if-end-input.true

pub slice_bounds-answer_line-end : goal.slice_bounds-answer_line-end
slice_bounds-answer_line-end c =
    let l = c.loop-out in
    let a = c.args in
    end-le a.input.now a.out.now l.out l.taken l.written l.invariant _ c.line_end-end.ensures

pub overflow_add-written : goal.overflow_add-written
overflow_add-written c =
    let l = c.loop-out in
    let a = c.args in
    let f = answer-fits a.input.now a.out.now l.out l.taken l.written l.invariant _ c.line_end-end.ensures c.if-end-input.false c.loop-out-test.true _ _ (rw (rest-is l.out l.written) at c.answer_line-written.auto.out) (rw (rest-is l.out l.written) at c.answer_line-written.ensures) in omega (arith, f)

pub overflow_add-taken : goal.overflow_add-taken
overflow_add-taken c =
    let l = c.loop-out in
    let a = c.args in
    omega (arith, end-le a.input.now a.out.now l.out l.taken l.written l.invariant _ c.line_end-end.ensures)

pub loop-out-smaller : goal.loop-out-smaller
loop-out-smaller c =
    let l = c.loop-out in
    let a = c.args in
    omega (arith, c.line_end-end.ensures, end-le a.input.now a.out.now l.out l.taken l.written l.invariant _ c.line_end-end.ensures)

pub loop-out-preserved : goal.loop-out-preserved
loop-out-preserved c =
    let l = c.loop-out in
    let a = c.args in
    going_on a.input.now a.out.now l.out l.taken l.written l.invariant _ c.line_end-end.ensures c.if-end-input.false c.loop-out-test.true _ _ (rw (rest-is l.out l.written) at c.answer_line-written.auto.out) (rw (rest-is l.out l.written) at c.answer_line-written.ensures)

pub returns : goal.returns
returns c =
    let l = c.loop-out in
    let a = c.args in
    going-full a.input.now a.out.now l.out l.taken l.written l.invariant c.loop-out-test.false

pub loop-out-init : goal.loop-out-init
loop-out-init c = going-first _ _

pub line_end-end-requires : goal.line_end-end-requires
line_end-end-requires c = tt

pub answer_line-written-requires : goal.answer_line-written-requires
answer_line-written-requires c = tt

pub shape_of-out : goal.shape_of-out
shape_of-out c = c.loop-out.invariant.long
