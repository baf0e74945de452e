-- What the column writer did is put into the words, or there are too few of them. Assumes nothing.
use native.Mathlib.Omega.{arith}
use Rattle.exports.proofs.Telling.{column-long, few-of, laid, told_of}
use Rattle.exports.proofs.column_calls.orc_write_column.Goals as goal

pub returns : goal.returns
returns c =
    let h = c.if-words-lt-COUNT.false in
    told_of column-long c.write_column-answer.ensures.answer h c.write_column-answer.ensures.places (laid column-long h c.of-said.ensures c.lay.ensures)

pub returns-then-words-lt-COUNT : goal.returns-then-words-lt-COUNT
returns-then-words-lt-COUNT c = few-of column-long (omega arith)
