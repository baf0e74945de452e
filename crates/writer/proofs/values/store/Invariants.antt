-- Each turn stores one row, so the places filled are the rows walked. Assumes nothing.
use Rattle.format.proofs.Common.{map, length, drop}
use Rattle.format.specs.Rows.{as_u64}
use Rattle.format.specs.Writing
use Rattle.writer.proofs.Turns.{Filled}
use Rattle.writer.proofs.values.store.Given as goal

abbrev pub invariant-loop-i : goal.invariant-loop-i
invariant-loop-i l = Filled (length l.rows) (λ k. map (Writing.stored l.signed) (drop k (map as_u64 l.rows))) l.initial.vals l.vals l.i
