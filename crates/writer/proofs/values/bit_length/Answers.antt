-- The leading zeros give the bits that x needs. Assumes nothing.
use Rattle.format.proofs.Common.{◌≡◌, ◌-◌, arith}
use lib.Count.{count_leading_zeros, leading_le, leading_length}
use Rattle.writer.proofs.values.bit_length.Goals as goal

pub overflow_sub-result : goal.overflow_sub-result
overflow_sub-result c = leading_le 64 c.args.x

pub returns : goal.returns
returns c = let l = leading_length 64 c.args.x c.ranges.x.fits in let e : 64 - count_leading_zeros 64 c.args.x ≡ l.0 = omega (arith, l.1) in
    rw e (record { most = omega (arith, l.1); holds = l.2; least = l.3 })
