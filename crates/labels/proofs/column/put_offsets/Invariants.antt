-- Each turn lays where one name begins; no sum passes the block, since the lengths add up to it. Assumes nothing.
use Rattle.labels.proofs.OffsetLoop.{OffsetsSoFar}
use Rattle.labels.proofs.column.put_offsets.Given as goal

abbrev pub invariant-loop-i : goal.invariant-loop-i
invariant-loop-i l = OffsetsSoFar l.lengths l.initial.offsets l.offsets l.sum l.i
