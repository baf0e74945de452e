-- `ones_of` meets its contract. Assumes nothing.
use Prim.Native.Nat.{◌/◌, ◌^◌, ◌-◌, ◌≤◌}
use native.Mathlib.Nat.{div-le_self, lt_of_le_of_lt}
use lib.Count.{ones, ones-le}
use native.Mathlib.Omega.{arith}
use Rattle.boolean_rle.proofs.count.ones_of.Goals as goal

pub overflow_cast-result-2 : goal.overflow_cast-result-2
overflow_cast-result-2 c =
    let h : ones (c.args.byte / 2 ^ (8 - c.args.bits)) ≤ 8 = ones-le 8 _ (lt_of_le_of_lt (div-le_self _ _) (omega arith)) in omega arith
