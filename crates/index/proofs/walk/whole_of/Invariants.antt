-- Each turn counts one run more, or ends with what the stream is: the count so far, and what is still to come, are the whole's. Assumes nothing.
use Prim.Native.Nat.{◌-◌}
use lib.ListN.{length}
use Rattle.index.proofs.Walks.{Surveyed}
use Rattle.index.proofs.walk.whole_of.Given as goal

abbrev pub invariant-loop-run : goal.invariant-loop-run
invariant-loop-run l = Surveyed l.input l.place l.runs l.rows

abbrev pub decreases-loop-run : goal.decreases-loop-run
decreases-loop-run l = length l.input - l.place
