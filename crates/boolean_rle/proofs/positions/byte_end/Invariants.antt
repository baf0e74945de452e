-- Each turn passes one run, so the position sought from the start on is the one sought from `place` on, `left` and `rest` bytes after it.
-- Assumes nothing.
use mathlib.Core.Path.{◌≡◌}
use Prim.Native.Nat.{◌+◌, ◌-◌}
use lib.ListN.{length}
use Rattle.boolean_rle.specs.Found.{byte_end}
use Rattle.boolean_rle.proofs.positions.byte_end.Given as goal

abbrev pub invariant-loop-n : goal.invariant-loop-n
invariant-loop-n l = byte_end l.input l.initial.place (l.initial.left + l.n) ≡ byte_end l.input l.place (l.left + l.rest)

abbrev pub decreases-loop-n : goal.decreases-loop-n
decreases-loop-n l = length l.input - l.place
