use Rattle.rle_v2.proofs.Pass.{Turn}
use Rattle.format.specs.Rows.{plus, as_i64}
use Rattle.rle_v2.proofs.rows.steps.Given as goal

abbrev pub invariant-loop-row : goal.invariant-loop-row
invariant-loop-row l = Turn (λ x z. as_i64 x) (λ x z. plus x l.step) l.first l.initial.out l.out l.row-index l.x
