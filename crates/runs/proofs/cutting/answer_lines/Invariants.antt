-- `cutting::answer_lines` meets its contract. The loop's invariant: the lines in the first bytes are answered. Assumes nothing.
use Rattle.std.proofs.Common.{◌-◌, length}
use Rattle.runs.proofs.Lines.{Going}
use Rattle.runs.proofs.cutting.answer_lines.Given as goal

abbrev pub invariant-loop-out : goal.invariant-loop-out
invariant-loop-out l = Going l.input l.initial.out l.out l.taken l.written

abbrev pub decreases-loop-out : goal.decreases-loop-out
decreases-loop-out l = length l.input - l.taken
