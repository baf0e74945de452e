-- Each turn reads one run more into its places, so the rows so far and the batch that is still to come are the whole; a turn that reads
-- none ends it. Assumes nothing.
use Prim.Native.Nat.{◌-◌}
use lib.ListN.{length}
use Rattle.batches.proofs.RunsWalk.{Walked}
use Rattle.batches.proofs.read_runs.Given as goal

abbrev pub invariant-loop-k : goal.invariant-loop-k
invariant-loop-k l = Walked l.input l.initial.p l.signed l.initial.out l.out l.p l.k

abbrev pub decreases-loop-k : goal.decreases-loop-k
decreases-loop-k l = length l.input - l.p
