-- The converter's answer is put into the words, or there are too few of them. Assumes nothing.
use native.Mathlib.Omega.{arith}
use Rattle.exports.proofs.Telling.{convert-long, few-of, laid, told_of}
use Rattle.exports.proofs.column_calls.orc_convert.Goals as goal

pub returns : goal.returns
returns c =
    let h = c.if-words-lt-COUNT.false in
    told_of convert-long c.convert-converted.ensures.answer h c.convert-converted.ensures.places (laid convert-long h c.of-said.ensures c.lay.ensures)

pub returns-then-words-lt-COUNT : goal.returns-then-words-lt-COUNT
returns-then-words-lt-COUNT c = few-of convert-long (omega arith)
