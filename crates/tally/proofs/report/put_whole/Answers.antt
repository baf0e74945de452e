-- Below 0 the text is a minus sign and the size, and otherwise the size alone. Assumes nothing.
use Rattle.std.proofs.Common.{◌≡◌, [], ◌∷◌, ◌++◌, length, sym, ap, ◌∙◌, arith}
use Rattle.text.proofs.Texts.{then-written}
use Rattle.tally.specs.Wide.{wide_value, size_of}
use Rattle.tally.specs.Text.{number_text, whole_text}
use Rattle.tally.proofs.TextDigits.{with-minus, without-minus}
use Rattle.tally.proofs.report.put_whole.Goals as goal

pub put-next-requires : goal.put-next-requires
put-next-requires c =
    let minus : whole_text (wide_value c.args.wide) ≡ (45 ∷ []) ++ number_text (size_of c.size-size.result) = with-minus _ _ c.size-size.ensures (sym c.is_negative.ensures ∙ c.if-is_negative.true) in
    omega (arith, c.requires, ap length (minus))

pub put_size-requires : goal.put_size-requires
put_size-requires c =
    let minus : whole_text (wide_value c.args.wide) ≡ (45 ∷ []) ++ number_text (size_of c.size-size.result) = with-minus _ _ c.size-size.ensures (sym c.is_negative.ensures ∙ c.if-is_negative.true) in
    omega (arith, c.requires, ap length (minus), c.put-next.ensures.next, c.put-next.auto.out)

pub returns-then-is_negative : goal.returns-then-is_negative
returns-then-is_negative c =
    let minus : whole_text (wide_value c.args.wide) ≡ (45 ∷ []) ++ number_text (size_of c.size-size.result) = with-minus _ _ c.size-size.ensures (sym c.is_negative.ensures ∙ c.if-is_negative.true) in
    rw (minus) (then-written (omega arith) c.put-next.ensures c.put_size.ensures)

pub put_size-requires-2 : goal.put_size-requires-2
put_size-requires-2 c =
    let no_minus : whole_text (wide_value c.args.wide) ≡ number_text (size_of c.size-size.result) = without-minus _ _ c.size-size.ensures (sym c.is_negative.ensures ∙ c.if-is_negative.false) in
    omega (arith, c.requires, ap length (no_minus))

pub returns : goal.returns
returns c =
    let no_minus : whole_text (wide_value c.args.wide) ≡ number_text (size_of c.size-size.result) = without-minus _ _ c.size-size.ensures (sym c.is_negative.ensures ∙ c.if-is_negative.false) in
    rw (no_minus) c.put_size-2.ensures
