-- The call of itself has one digit fewer: the measure is the number. Assumes nothing.
use Rattle.tally.specs.Wide.{size_of}
use Rattle.tally.proofs.report.+put_size.Given as goal

abbrev pub decreases-put_size : goal.decreases-put_size
decreases-put_size l = size_of l.size
