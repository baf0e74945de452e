-- At each turn a bound holds for the whole exactly if it holds for the largest so far and for what is
-- left. Assumes nothing.
use Rattle.format.proofs.Common.{length}
use Rattle.writer.proofs.Laws.{Most}
use Rattle.writer.proofs.values.largest.Given as goal

abbrev pub invariant-loop-value : goal.invariant-loop-value
invariant-loop-value l = Most l.vals (length l.vals) l.most l.value-index
