-- Each turn lays the name of one row, where it begins and its length. Assumes nothing.
use Rattle.labels.proofs.LabelLoop.{LabelsSoFar}
use Rattle.labels.proofs.column.put_labels.Given as goal

abbrev pub invariant-loop-i : goal.invariant-loop-i
invariant-loop-i l =
    LabelsSoFar l.flags l.numbers l.lengths l.initial.starts l.initial.sizes l.starts l.sizes l.next l.i
