-- A word, a decimal of at most twenty digits and a newline, one after the other. Assumes nothing.
use Rattle.text.proofs.Texts.{then-written, decimal-length}
use Rattle.tally.specs.Text.{count_line}
use Rattle.tally.proofs.TextLengths.{count-length}
use Rattle.std.proofs.Common.{arith}
use Rattle.tally.proofs.report.put_count.Goals as goal

pub put_decimal-place-requires : goal.put_decimal-place-requires
put_decimal-place-requires c =
    omega (arith, c.requires, c.put_word-place.ensures.next, c.put_word-place.auto.out, decimal-length c.args.count)

pub put-requires : goal.put-requires
put-requires c =
    omega (
      arith,
      c.requires,
      c.put_word-place.ensures.next,
      c.put_word-place.auto.out,
      c.put_decimal-place.ensures.next,
      c.put_decimal-place.auto.out,
      decimal-length c.args.count,
    )

pub returns : goal.returns
unfolding count_line
returns c =
    let w = then-written (omega arith) (then-written (omega arith) c.put_word-place.ensures c.put_decimal-place.ensures) c.put.ensures in
    record { text_written = w; upper_bound = omega (arith, w.next, count-length c.args.word.now c.args.count) }
