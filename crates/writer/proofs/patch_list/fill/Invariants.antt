-- At each turn the entries so far, then those still to come, are the whole. Assumes nothing.
use Rattle.format.proofs.Common.{◌≡◌, ◌+◌, ◌-◌, length}
use Rattle.writer.proofs.PatchedFill.{Filling}
use Rattle.writer.proofs.patch_list.fill.Given as goal

abbrev pub invariant-loop-i : goal.invariant-loop-i
invariant-loop-i l = (length l.list ≡ length l.initial.list) × Filling l.vals l.n l.bits l.pw l.list l.i l.from l.k

abbrev pub decreases-loop-i : goal.decreases-loop-i
decreases-loop-i l = (l.n - l.i) + (l.n - l.from)
