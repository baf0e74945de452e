-- Each turn reads one row, and a row that was read is an i64. Assumes nothing.
use Prim.Native.Nat.{◌≤◌}
use lib.ListN.{length, take}
use Rattle.format.specs.Writing.{AllI64}
use Rattle.planner.proofs.write.know.Given as goal

abbrev pub invariant-loop-z : goal.invariant-loop-z
invariant-loop-z l = (l.z-index ≤ length l.rows) × AllI64 (take l.z-index l.rows)
