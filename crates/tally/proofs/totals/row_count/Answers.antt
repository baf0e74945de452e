-- Only a run has rows, reply by reply. Assumes nothing.
use Rattle.tally.proofs.totals.row_count.Goals as goal

pub returns-in-Run : goal.returns-in-Run
returns-in-Run c = rw c.in-Run.is
