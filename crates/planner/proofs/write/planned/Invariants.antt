-- Each turn lays the next segment's run after those before it; the check has said that all of them have room. Assumes nothing.
use Rattle.planner.specs.Walk.{columns}
use Rattle.planner.proofs.Planning.{Plan}
use Rattle.planner.proofs.write.planned.Given as goal

abbrev pub invariant-loop-k : goal.invariant-loop-k
invariant-loop-k l =
    Plan l.signed l.rows (columns l.p) l.initial.out l.out l.k l.row l.bytes
