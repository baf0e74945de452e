-- `boolean_rle::span_from` meets its contract. The loop's invariant: the runs up to `end` are passed, and `left` bytes are still needed. Assumes nothing.
use lib.ListN.{length, drop}
use Rattle.format.specs.Booleans.{booleans}
use Rattle.boolean_rle.specs.Found.{span_of}
use Rattle.boolean_rle.proofs.FirstPass.{Passed}
use Rattle.boolean_rle.proofs.span_from.Given as goal

abbrev pub invariant-loop-left : goal.invariant-loop-left
invariant-loop-left l = Passed l.input l.at (span_of (length l.input) (booleans l.n (drop l.at l.input))) l.end l.left

abbrev pub decreases-loop-left : goal.decreases-loop-left
decreases-loop-left l = l.left
