-- At each turn all steps fit exactly if those from the row reached on do. Assumes nothing.
use Rattle.format.proofs.Common.{map, ◌-◌, ◌^◌, ltb, length, drop}
use Rattle.format.specs.Rows.{as_u64}
use Rattle.format.specs.Writing.{steps_of}
use Rattle.writer.proofs.Turns.{Tested}
use Rattle.writer.proofs.values.all_steps_fit.Given as goal

abbrev pub invariant-loop-i : goal.invariant-loop-i
invariant-loop-i l = Tested (λ x. ltb x (2 ^ l.bits)) (length l.rows) (λ k. steps_of l.falling (drop k (map as_u64 l.rows))) (l.i - 1)
