-- Each turn stores one difference, so the places filled are those of the rows walked. Assumes nothing.
use Rattle.format.proofs.Common.{map, length, drop}
use Rattle.format.specs.Rows.{as_u64}
use Rattle.format.specs.PatchedWriting.{differences}
use Rattle.writer.proofs.Turns.{Filled}
use Rattle.writer.proofs.values.differences.Given as goal

abbrev pub invariant-loop-i : goal.invariant-loop-i
invariant-loop-i l = Filled (length l.rows) (λ k. differences l.base (drop k (map as_u64 l.rows))) l.initial.vals l.vals l.i
