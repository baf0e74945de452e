-- Each turn counts one run more, or ends with what the definition says: the runs so far are counted, and the rest is read in the places that are left.
-- Assumes nothing.
use Prim.Native.Nat.{◌-◌}
use lib.ListN.{length}
use Rattle.format.specs.Fields.{two64}
use Rattle.rle_v2.proofs.StreamWalk.{Counted}
use Rattle.rle_v2.proofs.measure_stream.Given as goal

abbrev pub invariant-loop-place : goal.invariant-loop-place
invariant-loop-place l = Counted l.input l.from (two64 - 1) l.place l.count l.last

abbrev pub decreases-loop-place : goal.decreases-loop-place
decreases-loop-place l = length l.input - l.place
