-- `ones_in` meets its contract. Assumes nothing.
use Prim.Native.Nat.{◌*◌, ◌≤◌}
use mathlib.Core.Path.{◌≡◌}
use Rattle.boolean_rle.specs.Ones.{ones_in}
use Rattle.boolean_rle.proofs.count.ones_in.Given as goal

abbrev pub invariant-loop-byte : goal.invariant-loop-byte
invariant-loop-byte l = (l.ones ≤ 8 * l.byte-index) × (l.ones ≡ ones_in (8 * l.byte-index) l.bytes)
