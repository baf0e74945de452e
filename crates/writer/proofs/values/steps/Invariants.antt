-- Each turn stores one step, so the places filled are those of the steps walked. Assumes nothing.
use Rattle.format.proofs.Common.{map, ◌-◌, length, drop}
use Rattle.format.specs.Rows.{as_u64}
use Rattle.format.specs.Writing.{steps_of}
use Rattle.writer.proofs.Turns.{Filled}
use Rattle.writer.proofs.values.steps.Given as goal

abbrev pub invariant-loop-i : goal.invariant-loop-i
invariant-loop-i l = Filled (length l.rows - 1) (λ k. steps_of l.falling (drop k (map as_u64 l.rows))) l.initial.vals l.vals l.i
