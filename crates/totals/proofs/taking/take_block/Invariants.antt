-- `taking::take_block` meets its contract. The loop's invariant: the lines in the first bytes are taken. Assumes nothing.
use mathlib.Core.Path.{◌≡◌}
use Prim.Native.Nat.{◌-◌}
use lib.ListN.{length}
use Rattle.totals.proofs.Onward.{Onward}
use Rattle.totals.proofs.taking.take_block.Given as goal

abbrev pub invariant-loop-totals : goal.invariant-loop-totals
invariant-loop-totals l = (length l.rows ≡ length l.initial.rows) × Onward l.initial.totals l.input l.totals l.from

abbrev pub decreases-loop-totals : goal.decreases-loop-totals
decreases-loop-totals l = length l.input - l.from
