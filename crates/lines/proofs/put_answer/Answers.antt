-- Each answer has its words: the end and a refusal theirs, and a run its numbers and rows. Assumes nothing.
use mathlib.Core.Path.{◌∙◌, ap}
use Rattle.std.specs.Prelude.{Ok}
use native.Mathlib.Omega.{arith}
use Rattle.lines.specs.Line.{reply_text}
use Rattle.text.proofs.Texts.{decimal-length, then-written}
use Rattle.lines.proofs.put_answer.Goals as goal

pub put_run-requires : goal.put_run-requires
put_run-requires c =
    rw (c.in-Ok-Some.is ∙ ap Ok (rw c.in-Ok-Some.is at c.in-Ok-Some.field-0-is)) at c.requires

pub put_decimal-end-requires : goal.put_decimal-end-requires
put_decimal-end-requires c =
    omega (arith, c.requires, c.put_word-at.ensures.next, c.put_word-at.auto.out, decimal-length c.in-Err.refusal.number)

pub returns-in-Ok-None : goal.returns-in-Ok-None
unfolding reply_text
returns-in-Ok-None c =
    rw (c.in-Ok-None.is ∙ ap Ok (rw c.in-Ok-None.is at c.in-Ok-None.field-0-is)) c.put_word-end.ensures

pub returns-in-Ok-Some : goal.returns-in-Ok-Some
unfolding reply_text
returns-in-Ok-Some c =
    rw (c.in-Ok-Some.is ∙ ap Ok (rw c.in-Ok-Some.is at c.in-Ok-Some.field-0-is)) c.put_run.ensures

pub returns-in-Err : goal.returns-in-Err
unfolding reply_text
returns-in-Err c =
    rw c.in-Err.is (then-written (omega arith) c.put_word-at.ensures c.put_decimal-end.ensures)
