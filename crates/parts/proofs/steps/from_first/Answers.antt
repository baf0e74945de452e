-- The byte of a cut field is counted from the first part, as the run's is. Assumes nothing.
use Rattle.parts.specs.Steps.{field_from}
use Rattle.parts.proofs.steps.from_first.Goals as goal

pub returns-in-None : goal.returns-in-None
unfolding field_from
returns-in-None c = rw (c.new.ensures, c.in-None.is)

pub returns-in-Some : goal.returns-in-Some
unfolding field_from
returns-in-Some c = rw (c.cut.ensures, c.in-Some.is)
