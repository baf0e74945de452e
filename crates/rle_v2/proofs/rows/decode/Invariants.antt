use Prim.Native.Nat.{ℕ}
use Rattle.format.specs.Fields.{zigzag}
use Rattle.format.specs.Rows.{as_i64, as_u64}
use Rattle.rle_v2.proofs.Pass.{Turn}
use Rattle.rle_v2.proofs.rows.decode.Given as goal

abbrev pub invariant-loop-row : goal.invariant-loop-row
invariant-loop-row l = Turn (λ (x : ℕ) z. as_i64 (zigzag (as_u64 z))) (λ x z. x) 0 l.initial.out l.out l.row-index 0
