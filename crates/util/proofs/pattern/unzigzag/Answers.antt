-- The row's bits are the zigzag pattern halved, and turned over if it is odd. Assumes nothing.
use Rattle.format.proofs.Common.{sym, arith}
use Rattle.format.proofs.Patterns.{zigzag-even, zigzag-odd}
use Rattle.util.proofs.pattern.unzigzag.Goals as goal

pub returns-else-u-eq0 : goal.returns-else-u-eq0
returns-else-u-eq0 c = sym (zigzag-odd _ c.if-u-eq0.false (omega arith))

pub returns-then-u-eq0 : goal.returns-then-u-eq0
returns-then-u-eq0 c = sym (zigzag-even _ c.if-u-eq0.true)
