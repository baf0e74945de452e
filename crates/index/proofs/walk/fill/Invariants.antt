-- Each turn fills one place of each column: what stands there so far, then what is still to come, are the stream's columns. Assumes nothing.
use Prim.Native.Nat.{◌-◌}
use lib.ListN.{length}
use Rattle.index.proofs.Fills.{Filling}
use Rattle.index.proofs.walk.fill.Given as goal

abbrev pub invariant-loop-run : goal.invariant-loop-run
invariant-loop-run l = Filling l.input l.initial.first l.initial.at l.initial.counts l.first l.at l.counts l.place l.row l.i

abbrev pub decreases-loop-run : goal.decreases-loop-run
decreases-loop-run l = length l.input - l.place
