-- A word, then a row or none, then a newline: three texts whose lengths have a bound each. Assumes nothing.
use Rattle.std.proofs.Common.{ℤ, arith, to_z-of_z, w64, SFits, to_z, of_z, None, Some}
use Rattle.text.proofs.Texts.{then-written}
use Rattle.tally.specs.Text.{extreme_text, extreme_line}
use Rattle.tally.proofs.TextLengths.{row_line, extreme-length}
use borrow.Author.Rules.{sfits_of}
use Rattle.tally.proofs.report.put_extreme.Goals as goal

pub put-requires-in-Some : goal.put-requires-in-Some
put-requires-in-Some c =
    omega (
      arith,
      c.requires,
      c.put_word-place.ensures.next,
      c.put_word-place.auto.out,
      c.put_rows-next.ensures.next,
      c.put_rows-next.auto.out,
      row_line (to_z w64 (of_z w64 c.in-Some.row)),
    )

pub returns-in-None : goal.returns-in-None
unfolding extreme_line extreme_text
returns-in-None c =
    let t = then-written (omega arith) (then-written (omega arith) c.put_word-place.ensures c.put_word-next.ensures) c.put.ensures in
    rw c.in-None.is (record { text_written = t; upper_bound = omega (arith, t.next, extreme-length c.args.word.now None) })

pub returns-in-Some : goal.returns-in-Some
unfolding extreme_line extreme_text
returns-in-Some c =
    let z : ℤ = c.in-Some.row in
    let f : SFits w64 z = sfits_of c.in-Some.known_told-1-own.given.0.1 in
    let t = then-written (omega arith) (then-written (omega arith) c.put_word-place.ensures (rw (to_z-of_z {w = w64} f) at c.put_rows-next.ensures)) c.put-in-Some.ensures in
    rw c.in-Some.is (record { text_written = t; upper_bound = omega (arith, t.next, extreme-length c.args.word.now (Some z)) })
