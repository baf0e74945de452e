-- Each turn lays down the booleans of a run. What is left of the column's booleans stands from `place` on, after `left` bytes.
-- Assumes nothing.
use mathlib.Core.Path.{◌≡◌}
use Prim.Native.Nat.{◌-◌, ◌≤◌}
use lib.ListN.{length, drop}
use Rattle.format.specs.Booleans.{bits}
use Rattle.boolean_rle.specs.Column.{column}
use Rattle.boolean_rle.proofs.SecondPass.{Laid}
use Rattle.boolean_rle.proofs.put_booleans.Given as goal

abbrev pub invariant-loop-done : goal.invariant-loop-done
invariant-loop-done l =
    (l.k ≤ l.done) × (l.done ≤ l.n) × (length l.out ≡ length l.initial.out)
    × Laid bits l.input (bits (drop l.skip (column (drop l.at l.input)))) l.k l.n l.initial.out l.place l.left l.done l.out

abbrev pub decreases-loop-done : goal.decreases-loop-done
decreases-loop-done l = length l.input - l.place
