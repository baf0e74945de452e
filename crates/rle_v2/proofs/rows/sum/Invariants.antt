use Rattle.rle_v2.proofs.Pass.{Turn}
use Rattle.format.specs.Rows.{as_i64, as_u64}
use Rattle.rle_v2.specs.Pass.{moved}
use Rattle.rle_v2.proofs.rows.sum.Given as goal

abbrev pub invariant-loop-row : goal.invariant-loop-row
invariant-loop-row l = Turn (λ y z. as_i64 (moved l.falling y (as_u64 z))) (λ y z. moved l.falling y (as_u64 z)) l.before l.initial.out l.out l.row-index l.x
