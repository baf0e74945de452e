use Rattle.std.proofs.Common.{get_or, ℤ, pos, arith, w64, SFits}
use borrow.Author.Rules.{sfits_of}
use Rattle.tally.proofs.Order.{taken-row}
use Rattle.tally.proofs.WideSums.{summed-none, summed-more}
use Rattle.tally.proofs.sums.sum_of.Goals as goal

pub loop-row-init : goal.loop-row-init
loop-row-init c = summed-none _

pub loop-row-preserved : goal.loop-row-preserved
loop-row-preserved c =
    let l = c.loop-row in
    let z : ℤ = get_or c.args.rows.now l.row-index (pos 0) in
    let f : SFits w64 z = sfits_of c.of_row-arg-1.given in
    rw (c.plus-sum.ensures, c.of_row.ensures, taken-row z f) (summed-more _ l.row-index l.sum (omega arith) (omega arith) f l.invariant)
