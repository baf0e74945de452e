-- Five texts, one after the other; each number has at most twenty digits, so there is room for the next. Assumes nothing.
use Rattle.text.proofs.Texts.{then-written, decimal-length}
use Rattle.tally.specs.Text.{refusal_line}
use Rattle.tally.proofs.TextLengths.{refusal-length}
use Rattle.std.proofs.Common.{arith}
use Rattle.tally.proofs.report.put_refusal.Goals as goal

pub put_decimal-place-requires : goal.put_decimal-place-requires
put_decimal-place-requires c =
    omega (arith, c.requires, c.put_word-place.ensures.next, c.put_word-place.auto.out, decimal-length c.args.number)

pub put-place-requires : goal.put-place-requires
put-place-requires c =
    omega (
      arith,
      c.requires,
      c.put_word-place.ensures.next,
      c.put_word-place.auto.out,
      c.put_decimal-place.ensures.next,
      c.put_decimal-place.auto.out,
      decimal-length c.args.number,
    )

pub put_decimal-place-requires-2 : goal.put_decimal-place-requires-2
put_decimal-place-requires-2 c =
    omega (
      arith,
      c.requires,
      c.put_word-place.ensures.next,
      c.put_word-place.auto.out,
      c.put_decimal-place.ensures.next,
      c.put_decimal-place.auto.out,
      c.put-place.ensures.next,
      c.put-place.auto.out,
      decimal-length c.args.number,
      decimal-length c.args.count,
    )

pub put-requires : goal.put-requires
put-requires c =
    omega (
      arith,
      c.requires,
      c.put_word-place.ensures.next,
      c.put_word-place.auto.out,
      c.put_decimal-place.ensures.next,
      c.put_decimal-place.auto.out,
      c.put-place.ensures.next,
      c.put-place.auto.out,
      c.put_decimal-place-2.ensures.next,
      c.put_decimal-place-2.auto.out,
      decimal-length c.args.number,
      decimal-length c.args.count,
    )

pub returns : goal.returns
unfolding refusal_line
returns c =
    let w = then-written (omega arith) (then-written (omega arith)
    (then-written (omega arith) (then-written (omega arith) c.put_word-place.ensures c.put_decimal-place.ensures) c.put-place.ensures)
    c.put_decimal-place-2.ensures) c.put.ensures in
    record { text_written = w; upper_bound = omega (arith, w.next, refusal-length c.args.number c.args.count) }
