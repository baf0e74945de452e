-- At each turn all steps are the value exactly if those from the row reached on are. Assumes nothing.
use Rattle.format.proofs.Common.{false, map, ◌-◌, eqb, length, drop}
use Rattle.format.specs.Rows.{as_u64}
use Rattle.format.specs.Writing.{steps_of}
use Rattle.writer.proofs.Turns.{Tested}
use Rattle.writer.proofs.values.are_steps.Given as goal

abbrev pub invariant-loop-i : goal.invariant-loop-i
invariant-loop-i l = Tested (λ x. eqb x l.value) (length l.rows) (λ k. steps_of false (drop k (map as_u64 l.rows))) (l.i - 1)
