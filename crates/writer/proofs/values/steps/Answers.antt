use Rattle.format.proofs.Common.{◌∙◌, ◌-◌, arith, length}
use Rattle.writer.proofs.Turns.{fill-first, fill-next, fill_end, stepped-next, stepped-end}
use Rattle.writer.proofs.values.steps.Goals as goal

pub loop-i-preserved : goal.loop-i-preserved
loop-i-preserved c =
    fill-next c.loop-i.invariant (omega arith) (omega arith)
    (stepped-next c.args.rows.now c.loop-i.i c.args.falling (omega arith))
    (c.step.ensures ∙ rw (c.pattern_of.ensures, c.pattern_of-in-loop-i.ensures))

pub loop-i-init : goal.loop-i-init
loop-i-init c = fill-first _ _ _

pub shape_of-vals : goal.shape_of-vals
shape_of-vals c = c.loop-i.invariant.long

pub returns : goal.returns
returns c = let a = c.args in
    fill_end c.loop-i.invariant (omega arith) (stepped-end a.rows.now (length a.rows.now - 1) a.falling (omega arith))
