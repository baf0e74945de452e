-- A word, a whole number and a newline, one after the other; no whole number in two words is longer than 40 characters. Assumes nothing.
use Rattle.std.proofs.Common.{◌∙◌, arith}
use Rattle.text.proofs.Texts.{then-written}
use Rattle.tally.specs.Text.{sum_line}
use Rattle.tally.proofs.TextDigits.{whole_length}
use Rattle.tally.proofs.report.put_sum.Goals as goal

pub put_whole-place-requires : goal.put_whole-place-requires
put_whole-place-requires c =
    omega (arith, c.requires, c.put_word-place.ensures.next, c.put_word-place.auto.out, whole_length c.args.sum (omega arith) (omega arith))

pub put-requires : goal.put-requires
put-requires c =
    omega (
      arith,
      c.requires,
      c.put_word-place.ensures.next,
      c.put_word-place.auto.out,
      c.put_whole-place.ensures.next,
      c.put_whole-place.auto.out,
      whole_length c.args.sum (omega arith) (omega arith),
    )

pub shape_of-out : goal.shape_of-out
shape_of-out c =
    c.put.auto.out ∙ c.put_whole-place.auto.out ∙ c.put_word-place.auto.out

pub returns : goal.returns
unfolding sum_line
returns c =
    then-written (omega arith) (then-written (omega arith) c.put_word-place.ensures c.put_whole-place.ensures) c.put.ensures
