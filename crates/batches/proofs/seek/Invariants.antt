-- Each turn passes one run more, so the position that is reached is always one of the same row. Assumes nothing.
use Rattle.batches.specs.BatchSteps.{SameRow}
use Rattle.batches.proofs.RowPositions.{position}
use Rattle.batches.proofs.seek.Given as goal

abbrev pub invariant-loop-left : goal.invariant-loop-left
invariant-loop-left l = SameRow l.input (position l.initial.place l.initial.left) (position l.place l.left)

abbrev pub decreases-loop-left : goal.decreases-loop-left
decreases-loop-left l = l.left
