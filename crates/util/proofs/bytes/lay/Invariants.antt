-- Each turn copies one byte more: what stands so far, then what is still to come, is the whole. Assumes nothing.
use Rattle.format.proofs.Common.{◌≡◌, ◌≤◌, ◌++◌, length, take, drop}
use Rattle.util.proofs.bytes.lay.Given as goal

abbrev pub invariant-loop-i : goal.invariant-loop-i
invariant-loop-i l = (l.i ≤ length l.from) × (length l.to ≡ length l.from) × (take l.i l.to ++ drop l.i l.from ≡ l.from)
