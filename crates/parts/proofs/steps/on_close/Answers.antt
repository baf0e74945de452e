-- Each answer of the run reader becomes what the closing call does. Assumes nothing.
use mathlib.Core.Path.{◌∙◌, ap}
use Rattle.std.specs.Prelude.{Ok}
use Rattle.parts.specs.Steps.{by_last}
use Rattle.parts.proofs.steps.on_close.Goals as goal

pub returns-in-Ok-Some : goal.returns-in-Ok-Some
unfolding by_last
returns-in-Ok-Some c = rw ((c.in-Ok-Some.is ∙ ap Ok (rw c.in-Ok-Some.is at c.in-Ok-Some.field-0-is)), c.hand.ensures)

pub returns-in-Err : goal.returns-in-Err
unfolding by_last
returns-in-Err c = rw (c.in-Err.is, c.refuse.ensures, c.from_first.ensures)

pub returns-in-Ok-None : goal.returns-in-Ok-None
unfolding by_last
returns-in-Ok-None c = rw ((c.in-Ok-None.is ∙ ap Ok (rw c.in-Ok-None.is at c.in-Ok-None.field-0-is)), c.stop.ensures)
