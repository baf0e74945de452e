use Rattle.rle_v2.proofs.Pass.{Turn}
use Rattle.format.specs.Rows.{plus, as_i64}
use Prim.Native.Nat.{◌-◌, ◌≤◌}
use Rattle.rle_v2.proofs.rows.repeat.Given as goal

abbrev pub invariant-loop-i : goal.invariant-loop-i
invariant-loop-i l = record { done : l.i ≤ l.count; turn : Turn (λ x z. as_i64 x) (λ x z. plus x 0) l.value l.initial.out l.out l.i l.value }

abbrev pub decreases-loop-i : goal.decreases-loop-i
decreases-loop-i l = l.count - l.i
