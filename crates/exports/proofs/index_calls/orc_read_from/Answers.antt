-- How many rows were read is put into the words, or there are too few of them. Assumes nothing.
use native.Mathlib.Omega.{arith}
use Rattle.exports.proofs.Telling.{preview-long, few-of, laid, told_of}
use Rattle.exports.proofs.index_calls.orc_read_from.Goals as goal

pub returns : goal.returns
returns c =
    let h = c.if-words-lt-COUNT.false in
    told_of preview-long c.read_from-preview.ensures.answer h c.read_from-preview.ensures.places (laid preview-long h c.of-said.ensures.preview c.lay.ensures)

pub returns-then-words-lt-COUNT : goal.returns-then-words-lt-COUNT
returns-then-words-lt-COUNT c = few-of preview-long (omega arith)
