use native.Mathlib.Omega.{arith}
use lib.ListN.{get_or}
use Rattle.present.proofs.SpreadLoop.{at_most_one, count_next, count_none}
use Rattle.present.proofs.count_present.Goals as goal

pub loop-flag-preserved : goal.loop-flag-preserved
loop-flag-preserved c =
    let flags = c.args.flags.now in
    let i = c.loop-flag.flag-index in
    omega (arith, c.rows_for-found.ensures, at_most_one (get_or flags i 0), count_next flags i (omega arith))

pub returns : goal.returns
returns c =
    omega (arith, count_none c.args.flags.now c.loop-flag.flag-index (omega arith))
