-- A number below ten is one digit; any other is the text of its tenth, then its last digit. Assumes nothing.
use Rattle.format.proofs.Common.{ap, arith, length}
use Rattle.text.proofs.Texts.{decimal-one, decimal-next, decimal-longer, texts-join}
use Rattle.text.proofs.+put_decimal.Goals as goal

pub put-requires : goal.put-requires
put-requires t c = omega (arith, ap length (decimal-one c.args.x c.if-x-lt10.true))

pub returns-then-x-lt10 : goal.returns-then-x-lt10
returns-then-x-lt10 t c = rw (decimal-one c.args.x c.if-x-lt10.true) (rw c.low_digit-c.ensures at c.put.ensures)

pub put_decimal-next-requires : goal.put_decimal-next-requires
put_decimal-next-requires t c = (omega arith, omega (arith, decimal-longer c.args.x (omega arith) (omega arith)))

pub put-requires-2 : goal.put-requires-2
put-requires-2 t c =
    omega (arith, decimal-longer c.args.x (omega arith) (omega arith), c.put_decimal-next.ensures.next)

pub returns : goal.returns
returns t c =
    rw (decimal-next c.args.x (omega arith) (omega arith))
    (texts-join c.put_decimal-next.ensures (rw c.low_digit-c.ensures at c.put-2.ensures))
