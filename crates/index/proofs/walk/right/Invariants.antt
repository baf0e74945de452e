-- Each turn compares one place of the columns with one run: if they are the same, the columns are right exactly if the rest of them is. Assumes nothing.
use Prim.Native.Nat.{◌-◌}
use lib.ListN.{length}
use Rattle.index.proofs.Walks.{Matched}
use Rattle.index.proofs.walk.right.Given as goal

abbrev pub invariant-loop-place : goal.invariant-loop-place
invariant-loop-place l = Matched l.input l.first l.at l.counts l.place l.i l.total

abbrev pub decreases-loop-place : goal.decreases-loop-place
decreases-loop-place l = length l.input - l.place
