-- The count of true booleans is put into the words, or there are too few of them. Assumes nothing.
use native.Mathlib.Omega.{arith}
use Rattle.answer_words.proofs.Telling.{few}
use Rattle.exports.proofs.Telling.{count_long, laid, told}
use Rattle.exports.proofs.orc_count_true.Goals as goal

pub returns : goal.returns
returns c =
    told c.count_true-count.ensures (laid count_long c.if-words-lt-COUNT.false c.of-said.ensures c.lay.ensures)

pub returns-then-words-lt-COUNT : goal.returns-then-words-lt-COUNT
returns-then-words-lt-COUNT c = few count_long (omega arith)
