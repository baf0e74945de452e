-- The answer for a byte value is put into the words, or there are too few of them. Assumes nothing.
use native.Mathlib.Omega.{arith}
use Rattle.answer_words.proofs.Telling.{few, answer-long}
use Rattle.exports.proofs.Telling.{told}
use Rattle.exports.proofs.orc_byte_value.Goals as goal

pub returns : goal.returns
returns c =
    told c.read_value-answer.ensures.answer c.put_answer.ensures

pub returns-then-words-lt-COUNT : goal.returns-then-words-lt-COUNT
returns-then-words-lt-COUNT c = few answer-long (omega arith)
