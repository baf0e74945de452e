-- Kinds 0 and 2 have no width that can be odd; the width of the others is odd if it is not kept. Assumes nothing.
use Rattle.format.proofs.Common.{ne_eqb}
use Rattle.convert.specs.Turn.{odd_first}
use Rattle.convert.proofs.turn.is_odd.Goals as goal

pub returns-then-first-ne0 : goal.returns-then-first-ne0
unfolding odd_first
returns-then-first-ne0 c = rw (ne_eqb _ 0 c.if-first-ne0.true, c.is_kept.ensures)

pub returns-else-first-ne0 : goal.returns-else-first-ne0
unfolding odd_first
returns-else-first-ne0 c = rw c.if-first-ne0.false
