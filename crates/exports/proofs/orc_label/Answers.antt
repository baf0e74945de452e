-- The row's label is put into the words, or there are too few of them. Assumes nothing.
use native.Mathlib.Omega.{arith}
use Rattle.answer_words.proofs.Telling.{few}
use Rattle.exports.proofs.Telling.{label-long, laid, told}
use Rattle.exports.proofs.orc_label.Goals as goal

pub returns : goal.returns
returns c =
    told c.label_of-label.ensures.answer (laid label-long c.if-words-lt-COUNT.false c.of-said.ensures c.lay.ensures)

pub returns-then-words-lt-COUNT : goal.returns-then-words-lt-COUNT
returns-then-words-lt-COUNT c = few label-long (omega arith)
