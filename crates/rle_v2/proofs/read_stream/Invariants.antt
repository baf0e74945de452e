-- Each turn reads one run more, or ends with what the definition says: the runs so far left their rows in the first places, and a refused turn leaves all
-- places as they were. Assumes nothing.
use Prim.Native.Nat.{◌-◌}
use lib.ListN.{length}
use Rattle.rle_v2.proofs.StreamPlaces.{Walked}
use Rattle.rle_v2.proofs.read_stream.Given as goal

abbrev pub invariant-loop-p : goal.invariant-loop-p
invariant-loop-p l = Walked l.input l.from l.signed l.initial.out l.out l.p l.k l.last

abbrev pub decreases-loop-p : goal.decreases-loop-p
decreases-loop-p l = length l.input - l.p
