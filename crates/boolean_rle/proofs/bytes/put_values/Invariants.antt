-- Each turn lays down the part of a run that is wanted. What is left of the column's bytes stands from `place` on, after `left` of them.
-- Assumes nothing.
use mathlib.Core.Path.{◌≡◌}
use mathlib.Core.List.{List}
use Prim.Native.Nat.{ℕ, ◌-◌, ◌≤◌}
use lib.ListN.{length, drop}
use Rattle.boolean_rle.specs.Column.{column}
use Rattle.boolean_rle.proofs.SecondPass.{Laid}
use Rattle.boolean_rle.proofs.bytes.put_values.Given as goal

-- a byte stands for itself
abbrev itself : List ℕ → List ℕ
itself bs = bs

abbrev pub invariant-loop-done : goal.invariant-loop-done
invariant-loop-done l =
    (l.done ≤ l.n) × (length l.out ≡ length l.initial.out) × Laid itself l.input (drop l.initial.left (column (drop l.initial.place l.input))) 0 l.n l.initial.out l.place l.left l.done l.out

abbrev pub decreases-loop-done : goal.decreases-loop-done
decreases-loop-done l = length l.input - l.place
