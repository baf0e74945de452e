-- Each run has a row at least, so there are no more runs than rows. Assumes nothing.
use Rattle.std.proofs.Common.{◌-◌, ◌≤◌, length}
use Rattle.proposer.proofs.lay_runs.Given as goal

abbrev pub invariant-loop-laid : goal.invariant-loop-laid
invariant-loop-laid l = (l.start ≤ l.laid.at) × (l.laid.at ≤ length l.rows) × (l.laid.count ≤ l.laid.at)

abbrev pub decreases-loop-laid : goal.decreases-loop-laid
decreases-loop-laid l = length l.rows - l.laid.at
