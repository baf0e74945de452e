-- At most 2^55 runs of at most 13 bytes, so no product passes 2^64, and the sum is the length of the runs. Assumes nothing.
use Rattle.std.specs.Int.{div_ceil}
use native.Mathlib.Omega.{arith}
use Rattle.format.proofs.Varints.{shortest-length}
use Rattle.salvage.proofs.Laying.{runs-small, filled-long}
use Rattle.salvage.proofs.fill.runs_size.Goals as goal

pub overflow_add-size : goal.overflow_add-size
overflow_add-size c = omega (arith, c.size-size.ensures, shortest-length c.args.first (omega arith))

pub overflow_mul-result : goal.overflow_mul-result
overflow_mul-result c =
    let a = c.args in
    rw (c.div_ceil.ensures, c.size-size.ensures)
    (omega (arith, runs-small (div_ceil a.rows.rows 512) a.first (omega arith) (omega arith)))

pub returns : goal.returns
returns c = let a = c.args in rw (c.div_ceil.ensures, c.size-size.ensures) (filled-long a.first a.rows.rows)
