-- Each turn takes one segment more, or ends with what the check says of the segment reached. Assumes nothing.
use mathlib.Core.Path.{◌≡◌}
use lib.ListN.{length}
use Rattle.planner.specs.Check.{any_run}
use Rattle.planner.specs.Walk.{columns}
use Rattle.planner.proofs.Checking.{Along}
use Rattle.planner.proofs.accept.walk.Given as goal

abbrev pub invariant-loop-k : goal.invariant-loop-k
invariant-loop-k l =
    (length l.run ≡ any_run) × Along l.signed l.rows (columns l.p) l.limit l.k l.row l.bytes
