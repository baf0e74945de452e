-- Each turn lays down the bits of one byte more. Assumes nothing.
use mathlib.Core.Path.{◌≡◌}
use Prim.Native.Nat.{◌+◌, ◌*◌}
use lib.ListN.{length, take, drop}
use Rattle.format.specs.Booleans.{bits}
use Rattle.boolean_rle.specs.Found.{Wrote}
use Rattle.boolean_rle.proofs.put_literals.Given as goal

abbrev pub invariant-loop-i : goal.invariant-loop-i
invariant-loop-i l =
    (length l.out ≡ length l.initial.out) × Wrote l.k (l.k + 8 * l.i) (bits (take l.count (drop l.first l.bytes))) l.initial.out l.out
