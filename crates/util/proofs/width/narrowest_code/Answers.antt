-- The leading zeros give the bits that x needs. Assumes nothing.
use Rattle.format.proofs.Common.{◌≡◌, ◌-◌, arith}
use lib.Count.{count_leading_zeros, leading_le, leading_length}
use Rattle.util.proofs.Widths.{narrowest-is}
use Rattle.util.proofs.width.narrowest_code.Goals as goal

pub returns : goal.returns
returns c =
    let x = c.args.x in
    let l = leading_length 64 x c.ranges.x.fits in
    let e : 64 - count_leading_zeros 64 c.args.x ≡ l.0 = omega (arith, l.1) in
    narrowest-is x l.0 _ (omega (arith, l.1)) l.2 l.3 (rw e at c.code_of.ensures)

pub overflow_sub-x : goal.overflow_sub-x
overflow_sub-x c = leading_le 64 c.args.x
