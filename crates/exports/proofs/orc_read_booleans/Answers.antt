-- The boolean reader's answer is put into the words, or there are too few of them. Assumes nothing.
use native.Mathlib.Omega.{arith}
use Rattle.answer_words.proofs.Telling.{answer-long}
use Rattle.exports.proofs.Telling.{few-of, told_of}
use Rattle.exports.proofs.orc_read_booleans.Goals as goal

pub returns : goal.returns
returns c =
    told_of answer-long c.read_booleans-answer.ensures.answer c.if-words-lt-COUNT.false c.read_booleans-answer.ensures.places c.put_answer.ensures

pub returns-then-words-lt-COUNT : goal.returns-then-words-lt-COUNT
returns-then-words-lt-COUNT c = few-of answer-long (omega arith)
