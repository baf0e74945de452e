use Rattle.format.proofs.Common.{arith, rules}
use Rattle.format.specs.Writing.{minus}
use Rattle.writer.proofs.Laws.{bits_at}
use Rattle.writer.proofs.Turns.{fill-first, store-next, store-end}
use Rattle.writer.proofs.values.differences.Goals as goal

pub loop-i-init : goal.loop-i-init
loop-i-init c = fill-first _ _ _

pub loop-i-preserved : goal.loop-i-preserved
loop-i-preserved c = let a = c.args in
    store-next (λ r. minus r a.base) a.rows.now c.loop-i.invariant (omega arith) (omega arith)
    (rw (c.cast_unsigned.ensures, bits_at a.rows.now c.loop-i.i (search rules)))

pub shape_of-vals : goal.shape_of-vals
shape_of-vals c = c.loop-i.invariant.long

pub returns : goal.returns
returns c = let a = c.args in store-end (λ r. minus r a.base) a.rows.now c.loop-i.invariant (omega arith)
