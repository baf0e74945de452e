-- One row has no step, so its base delta is 0; of more rows it is the first step. Assumes nothing.
use Rattle.format.proofs.Common.{ap₂, ◌∙◌, map, length-map, arith}
use Rattle.format.specs.Rows.{as_u64}
use Rattle.format.specs.Writing.{minus}
use Rattle.writer.proofs.Laws.{base-none, base-some}
use Rattle.writer.proofs.delta.base_delta.Goals as goal

pub returns-then-rows-lt2 : goal.returns-then-rows-lt2
returns-then-rows-lt2 c = let rows = c.args.rows.now in base-none (map as_u64 rows) (rw (length-map rows as_u64) (omega arith))

pub returns : goal.returns
returns c = let rows = c.args.rows.now in
    ap₂ minus c.pattern_of.ensures c.pattern_of-2.ensures
    ∙ base-some (map as_u64 rows) (rw (length-map rows as_u64) (omega arith))
