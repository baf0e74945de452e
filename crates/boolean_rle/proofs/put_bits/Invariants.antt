-- Each turn stores one bit more of those after the skipped. Assumes nothing.
use mathlib.Core.Path.{◌≡◌}
use Prim.Native.Nat.{◌+◌}
use lib.ListN.{length, drop}
use Rattle.format.specs.Digits.{digits}
use Rattle.boolean_rle.specs.Found.{Wrote}
use Rattle.boolean_rle.proofs.put_bits.Given as goal

abbrev pub invariant-loop-j : goal.invariant-loop-j
invariant-loop-j l = (length l.out ≡ length l.initial.out) × Wrote l.k (l.k + l.j) (drop l.skip (digits 2 8 l.byte)) l.initial.out l.out
