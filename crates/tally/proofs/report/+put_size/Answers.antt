-- One word is written as a decimal; any other number is its tenth, then its last digit. Assumes nothing.
use Rattle.std.proofs.Common.{length, ap, arith}
use Rattle.text.proofs.Texts.{then-written}
use Rattle.tally.proofs.TextDigits.{low_word, tenth-less, last-digit, one-longer, digit-below}
use Rattle.tally.proofs.report.+put_size.Goals as goal

pub put_decimal-requires : goal.put_decimal-requires
put_decimal-requires t c = omega (arith, c.requires, ap length (low_word c.args.size c.if-size-eq0.true (omega arith)))

pub returns-then-size-eq0 : goal.returns-then-size-eq0
returns-then-size-eq0 t c = rw (low_word c.args.size c.if-size-eq0.true (omega arith)) c.put_decimal.ensures

pub put_size-next-requires : goal.put_size-next-requires
put_size-next-requires t c = (
  omega (arith, tenth-less c.args.size c.if-size-eq0.false _ _ c.tenth-tenth.ensures),
  omega (arith, c.requires, one-longer c.args.size c.if-size-eq0.false _ _ c.tenth-tenth.ensures),
)

pub overflow_add-tenth : goal.overflow_add-tenth
overflow_add-tenth t c = omega (arith, digit-below c.args.size c.if-size-eq0.false _ _ c.tenth-tenth.ensures)

pub put-requires : goal.put-requires
put-requires t c =
    omega (
      arith,
      c.requires,
      one-longer c.args.size c.if-size-eq0.false _ _ c.tenth-tenth.ensures,
      c.put_size-next.ensures.next,
      c.put_size-next.auto.out,
    )

pub returns : goal.returns
returns t c =
    rw (last-digit c.args.size c.if-size-eq0.false _ _ c.tenth-tenth.ensures)
    (then-written (omega arith) c.put_size-next.ensures c.put.ensures)
