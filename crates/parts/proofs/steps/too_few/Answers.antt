-- Refusal 8, at no byte. Assumes nothing.
use Rattle.parts.proofs.steps.too_few.Goals as goal

pub returns : goal.returns
returns c = rw (c.idle.ensures, c.new.ensures)
