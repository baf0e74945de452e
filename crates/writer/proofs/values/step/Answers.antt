-- Falling or rising, the step is one difference, with its sides exchanged. Assumes nothing.
use Rattle.writer.proofs.values.step.Goals as goal

pub returns-then-falling : goal.returns-then-falling
returns-then-falling c = rw c.if-falling.true

pub returns-else-falling : goal.returns-else-falling
returns-else-falling c = rw c.if-falling.false
