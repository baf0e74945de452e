-- Each turn lays one direct run more after those before it, and takes at least one row. Assumes nothing.
use Prim.Native.Nat.{◌-◌}
use lib.ListN.{length}
use Rattle.planner.proofs.Widely.{Widely}
use Rattle.planner.proofs.write.wide.Given as goal

abbrev pub invariant-loop-row : goal.invariant-loop-row
invariant-loop-row l = Widely l.signed l.rows l.initial.out l.out l.runs l.row l.bytes

abbrev pub decreases-loop-row : goal.decreases-loop-row
decreases-loop-row l = length l.rows - l.row
