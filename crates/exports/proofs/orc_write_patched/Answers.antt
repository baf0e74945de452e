-- The patched writer's answer is put into the words, or there are too few of them. Assumes nothing.
use native.Mathlib.Omega.{arith}
use mir.Facts.{to_z-of_z}
use Rattle.answer_words.proofs.Telling.{answer-long}
use Rattle.exports.proofs.Telling.{few-of, told_of}
use Rattle.format.proofs.Common.{w64}
use Rattle.exports.proofs.orc_write_patched.Goals as goal

pub returns : goal.returns
returns c =
    let w = rw (to_z-of_z {w = w64} c.ranges.base) at c.write_patched-answer.ensures in
    told_of answer-long w.answer c.if-words-lt-COUNT.false w.places c.put_answer.ensures

pub returns-then-words-lt-COUNT : goal.returns-then-words-lt-COUNT
returns-then-words-lt-COUNT c = few-of answer-long (omega arith)
