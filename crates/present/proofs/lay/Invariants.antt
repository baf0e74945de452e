-- Each turn of the loop lays one row, there or missing.
-- Assumes nothing.
use Prim.Native.Nat.{◌-◌}
use lib.ListN.{length}
use Rattle.present.proofs.SpreadLoop.{SpreadSoFar}
use Rattle.present.proofs.lay.Given as goal

abbrev pub invariant-loop-next : goal.invariant-loop-next
invariant-loop-next l = SpreadSoFar l.fill l.flags l.rows l.initial.out l.out l.next l.i

abbrev pub decreases-loop-next : goal.decreases-loop-next
decreases-loop-next l = length l.flags - l.i
