-- The fresh reader is put into the words, or there are too few of them. Assumes nothing.
use native.Mathlib.Omega.{arith}
use Rattle.answer_words.proofs.Telling.{few}
use Rattle.exports.proofs.Telling.{told}
use Rattle.answer_words.proofs.PartWords.{state-long}
use Rattle.exports.proofs.part_calls.orc_part_start.Goals as goal

pub returns : goal.returns
returns c =
    told c.start.ensures c.put_reader.ensures

pub returns-then-state-lt-STATE_COUNT : goal.returns-then-state-lt-STATE_COUNT
returns-then-state-lt-STATE_COUNT c = few state-long (omega arith)
