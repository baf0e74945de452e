-- If the rows alone have no room the answer is no; otherwise no size overflows, and the runs are held to what is left. Assumes nothing.
use mathlib.Core.Path.{◌≡◌, sym}
use Prim.Native.Nat.{◌+◌, ◌*◌, ◌/◌}
use native.Mathlib.Omega.{arith}
use borrow.Author.Tests.{lt-leb}
use Rattle.planner.proofs.Direct.{room-left}
use Rattle.planner.proofs.write.wide_fits.Goals as goal

pub returns-then-limit-n : goal.returns-then-limit-n
returns-then-limit-n c =
    let a = c.args in
    sym (lt-leb (2 * ((a.rows.rows + 511) / 512) + 8 * a.rows.rows) a.room.bytes (omega (arith, c.if-limit-n.true)))

pub overflow_mul-result : goal.overflow_mul-result
overflow_mul-result c = omega (arith, c.if-limit-n.false, c.well_formed, c.div_ceil-runs.ensures)

pub overflow_mul-result-2 : goal.overflow_mul-result-2
overflow_mul-result-2 c = omega (arith, c.if-limit-n.false, c.well_formed)

pub overflow_sub-result : goal.overflow_sub-result
overflow_sub-result c = omega (arith, c.if-limit-n.false)

pub returns : goal.returns
returns c =
    let e : c.div_ceil-runs.result ≡ (c.args.rows.rows + 511) / 512 = omega (arith, c.div_ceil-runs.ensures) in
    rw e (room-left _ _ _ (overflow_sub-result c))
