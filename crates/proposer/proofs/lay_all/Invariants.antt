-- A window moves on by a row at least. Assumes nothing.
use Rattle.std.proofs.Common.{◌-◌, ◌≤◌, length}
use Rattle.proposer.proofs.lay_all.Given as goal

abbrev pub invariant-loop-laid : goal.invariant-loop-laid
invariant-loop-laid l = (l.laid.count ≤ l.laid.at) × (l.laid.at ≤ length l.rows)

abbrev pub decreases-loop-laid : goal.decreases-loop-laid
decreases-loop-laid l = length l.rows - l.laid.at
