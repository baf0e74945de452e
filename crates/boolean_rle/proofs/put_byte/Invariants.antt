-- Each turn stores one byte of the number in which the bits are spread, so that the bits after the first j are the bytes left of it.
-- Assumes nothing.
use mathlib.Core.Path.{◌≡◌}
use Prim.Native.Nat.{◌+◌}
use lib.ListN.{length}
use Rattle.format.specs.Digits.{digits}
use Rattle.boolean_rle.specs.Found.{Wrote}
use Rattle.boolean_rle.proofs.ByteBits.{Left}
use Rattle.boolean_rle.proofs.put_byte.Given as goal

abbrev pub invariant-loop-j : goal.invariant-loop-j
invariant-loop-j l =
    (length l.out ≡ length l.initial.out) × Left l.byte l.j l.left × Wrote l.k (l.k + l.j) (digits 2 8 l.byte) l.initial.out l.out
