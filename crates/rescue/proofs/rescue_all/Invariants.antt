-- Each turn rescues one group more, from the position that the turn before it made plain. Assumes nothing.
use Rattle.rescue.proofs.GroupsWalk.{Walked}
use Rattle.rescue.proofs.rescue_all.Given as goal

abbrev pub invariant-loop-i : goal.invariant-loop-i
invariant-loop-i l =
    Walked l.input l.signed l.runs l.skips l.counts l.fill l.initial.rows l.initial.verdicts l.rows l.verdicts l.here l.at l.kept l.i
