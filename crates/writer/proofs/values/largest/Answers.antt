use Rattle.format.proofs.Common.{arith, length}
use Rattle.writer.proofs.Laws.{most-first, most-max, most-of}
use Rattle.writer.proofs.values.largest.Goals as goal

pub loop-value-init : goal.loop-value-init
loop-value-init c = most-first c.args.vals.now (length c.args.vals.now)

pub loop-value-preserved : goal.loop-value-preserved
loop-value-preserved c =
    let l = c.loop-value in
    let a = c.args in
    rw c.max-most.ensures (most-max a.vals.now (length a.vals.now) l.most l.value-index l.invariant (omega arith) (omega arith))

pub returns : goal.returns
returns c = let l = c.loop-value in
    most-of c.args.vals.now l.most l.value-index l.invariant (omega arith) (omega arith)
