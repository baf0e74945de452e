-- The first two rows are steps, and the others are laid down behind them. Assumes nothing.
use mathlib.Core.List.{map}
use Rattle.format.specs.Rows.{as_i64}
use Rattle.util.specs.Packed.{fields}
use Rattle.rle_v2.proofs.DeltaRows.{laid-is}
use Rattle.rle_v2.proofs.delta.lay_packed.Goals as goal

pub returns : goal.returns
returns c =
    let a = c.args in
    laid-is a.first a.step a.n.rows (map as_i64 (fields a.bits a.n.rows a.block.now)) a.out.now _ c.magnitudes.new.out
    c.requires.rows_bound.1 (rw c.steps.ensures) c.magnitudes.ensures
