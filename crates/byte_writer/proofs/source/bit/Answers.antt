-- `source::bit`: the two arms are the two cases of the definition. Assumes nothing.
use Rattle.format.proofs.Common.{arith, eq-eqb, ne_eqb}
use Rattle.byte_writer.proofs.source.bit.Goals as goal

pub returns-then-flag-eq0 : goal.returns-then-flag-eq0
returns-then-flag-eq0 c = (rw (eq-eqb _ _ c.if-flag-eq0.true), omega arith)

pub returns-else-flag-eq0 : goal.returns-else-flag-eq0
returns-else-flag-eq0 c = (rw (ne_eqb _ _ c.if-flag-eq0.false), omega arith)
