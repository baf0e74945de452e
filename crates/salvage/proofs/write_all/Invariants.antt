-- Each turn writes one group and its line: what is written, and what stands for the groups that are left, is all. Assumes nothing.
use Rattle.salvage.proofs.Setting.{GroupsLaid}
use Rattle.salvage.proofs.write_all.Given as goal

abbrev pub invariant-loop-i : goal.invariant-loop-i
invariant-loop-i l =
    GroupsLaid l.signed l.fill l.groups.input.now l.groups.starts.now l.groups.counts.now l.initial.out l.initial.report l.out l.report l.stream.bytes l.lines.bytes l.i
