-- The state's words and the answer's are stored, or there are too few of them. Assumes nothing.
use Rattle.answer_words.proofs.PartWords.{few-of-state, few-of-words, stored}
use Rattle.answer_words.proofs.parts.put_taken.Goals as goal

pub returns : goal.returns
returns c =
    stored c.if-state-lt-STATE_COUNT.false c.if-words-lt-COUNT.false c.store_taken.ensures

pub returns-then-state-lt-STATE_COUNT : goal.returns-then-state-lt-STATE_COUNT
returns-then-state-lt-STATE_COUNT c = few-of-state c.if-state-lt-STATE_COUNT.true

pub returns-then-words-lt-COUNT : goal.returns-then-words-lt-COUNT
returns-then-words-lt-COUNT c = few-of-words c.if-state-lt-STATE_COUNT.false c.if-words-lt-COUNT.true
