-- Where a field is named, the run is cut in it; else 1 alone is the number of a cut. Assumes nothing.
use Rattle.parts.specs.Steps.{cut_short}
use Rattle.parts.proofs.steps.cut_short.Goals as goal

pub returns-in-None : goal.returns-in-None
unfolding cut_short
returns-in-None c = rw c.in-None.is

pub returns-in-Some : goal.returns-in-Some
unfolding cut_short
returns-in-Some c = rw c.in-Some.is
