-- The entry is put into the words, or there are too few of them. Assumes nothing.
use native.Mathlib.Omega.{arith}
use Rattle.answer_words.proofs.Telling.{few}
use Rattle.exports.proofs.Telling.{found-long, laid, told}
use Rattle.exports.proofs.index_calls.orc_look_up.Goals as goal

pub returns : goal.returns
returns c =
    told c.look_up-found.ensures (laid found-long c.if-words-lt-FOUND_COUNT.false c.of_found-said.ensures c.lay.ensures)

pub returns-then-words-lt-FOUND_COUNT : goal.returns-then-words-lt-FOUND_COUNT
returns-then-words-lt-FOUND_COUNT c = few found-long (omega arith)
