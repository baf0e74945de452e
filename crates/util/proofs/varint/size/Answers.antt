-- The leading zeros give the bits that x has. Assumes nothing.
use Rattle.format.proofs.Common.{◌≡◌, sym, ap, ◌∙◌, ◌+◌, ◌/◌, ◌-◌, arith, length}
use lib.Count.{count_leading_zeros, leading_le, leading_length}
use Rattle.format.specs.Fields.{shortest}
use Rattle.format.proofs.Varints.{shortest-last}
use Rattle.util.proofs.VarintSize.{bits-some, sized}
use Rattle.util.proofs.varint.size.Goals as goal

pub returns-then-x-eq0 : goal.returns-then-x-eq0
unfolding shortest
returns-then-x-eq0 c = sym (ap length (shortest-last 10 c.args.x (omega arith) (omega arith)))

pub returns : goal.returns
unfolding shortest
returns c =
    let x = c.args.x in
    let l = leading_length 64 x c.ranges.x.fits in
    let e : 64 - count_leading_zeros 64 x ≡ l.0 = omega (arith, l.1) in
    let d : c.div_ceil.result ≡ (l.0 + 6) / 7 = omega arith in
    d ∙ sym (sized 10 x l.0 (omega arith) (bits-some x l.0 (omega arith) l.2, l.2, l.3))

pub overflow_sub-bits : goal.overflow_sub-bits
overflow_sub-bits c = leading_le 64 c.args.x
