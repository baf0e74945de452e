-- Each turn adds one row: the words hold the sum of the rows so far, which at most 2^32 rows keep in range. Assumes nothing.
use Rattle.tally.proofs.WideSums.{Summed}
use Rattle.tally.proofs.sums.sum_of.Given as goal

abbrev pub invariant-loop-row : goal.invariant-loop-row
invariant-loop-row l = Summed l.rows l.row-index l.sum
