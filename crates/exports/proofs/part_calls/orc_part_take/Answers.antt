-- The call's answer and state are put into the words, or there are too few of them. Assumes nothing.
use Rattle.answer_words.proofs.PartWords.{few-state, few_words, is-enough}
use Rattle.exports.proofs.PartWords.{part-few, part-done}
use Rattle.exports.proofs.part_calls.orc_part_take.Goals as goal

pub returns-then-state-lt-STATE_COUNT : goal.returns-then-state-lt-STATE_COUNT
returns-then-state-lt-STATE_COUNT c =
    let a = c.args in
    part-few (few-state a.state.now a.words.now c.if-state-lt-STATE_COUNT.true)

pub returns-then-words-lt-COUNT : goal.returns-then-words-lt-COUNT
returns-then-words-lt-COUNT c =
    let a = c.args in
    part-few (few_words a.state.now a.words.now c.if-state-lt-STATE_COUNT.false c.if-words-lt-COUNT.true)

pub returns : goal.returns
returns c =
    let a = c.args in
    part-done c.take-step.result (is-enough a.state.now a.words.now c.if-state-lt-STATE_COUNT.false c.if-words-lt-COUNT.false) c.put_taken.ensures (rw c.reader_of-reader.ensures at c.take-step.ensures)
