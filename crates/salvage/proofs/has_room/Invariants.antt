-- Each turn measures one group and its line: the bytes measured, and those of the groups that are left, are all. Assumes nothing.
use lib.ListN.{length}
use Rattle.salvage.proofs.Turning.{Measured}
use Rattle.salvage.proofs.has_room.Given as goal

abbrev pub invariant-loop-i : goal.invariant-loop-i
invariant-loop-i l =
    Measured l.signed l.fill l.groups.input.now l.groups.starts.now l.groups.counts.now (length l.out) (length l.report) l.stream l.lines l.i
