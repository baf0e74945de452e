-- Each turn cuts one value where it stands; the values after it are still those of the start. Assumes nothing.
use Rattle.format.proofs.Common.{drop}
use Rattle.format.specs.PatchedWriting.{lows}
use Rattle.writer.proofs.Turns.{Filled}
use Rattle.writer.proofs.values.keep_low.Given as goal

abbrev pub invariant-loop-value : goal.invariant-loop-value
invariant-loop-value l = Filled l.fn.rows.rows (λ k. lows l.bits (drop k l.initial.value-items)) l.initial.value-items l.value-items l.value-index
