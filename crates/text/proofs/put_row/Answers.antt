-- The digits are those of the row's size, after a minus sign if it is negative. Assumes nothing.
use Rattle.format.proofs.Common.{ap, arith, length}
use Rattle.text.proofs.Texts.{row-plain, row-minus, texts-join}
use Rattle.text.proofs.put_row.Goals as goal

pub put_decimal-requires : goal.put_decimal-requires
put_decimal-requires c =
    omega (arith, ap length (row-plain c.args.row _ c.ranges.row c.unsigned_abs-size.ensures.value c.if-row-ge0.true))

pub returns-then-row-ge0 : goal.returns-then-row-ge0
returns-then-row-ge0 c = rw (row-plain c.args.row _ c.ranges.row c.unsigned_abs-size.ensures.value c.if-row-ge0.true) c.put_decimal.ensures

pub put-next-requires : goal.put-next-requires
put-next-requires c =
    omega (arith, ap length (row-minus c.args.row _ c.ranges.row c.unsigned_abs-size.ensures.value c.if-row-ge0.false))

pub put_decimal-requires-2 : goal.put_decimal-requires-2
put_decimal-requires-2 c =
    omega (arith, ap length (row-minus c.args.row _ c.ranges.row c.unsigned_abs-size.ensures.value c.if-row-ge0.false))

pub returns : goal.returns
returns c =
    rw (row-minus c.args.row _ c.ranges.row c.unsigned_abs-size.ensures.value c.if-row-ge0.false) (search texts-join)
