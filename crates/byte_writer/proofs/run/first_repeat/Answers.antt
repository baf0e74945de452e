-- `run::first_repeat`: the two arms are the two cases of the definition. Assumes nothing.
use Rattle.format.proofs.Common.{sym, ne_eqb}
use Rattle.byte_writer.specs.Choice.{repeated}
use Rattle.byte_writer.proofs.Cuts.{repeated-132}
use native.Mathlib.Omega.{arith}
use Rattle.byte_writer.proofs.run.first_repeat.Goals as goal

pub returns-then-n-eq132 : goal.returns-then-n-eq132
returns-then-n-eq132 c = sym (repeated-132 _ c.if-n-eq132.true)

pub returns : goal.returns
unfolding repeated
returns c = rw (ne_eqb _ 132 c.if-n-eq132.false) (omega (arith, c.min.ensures))
