-- The reader of all the words, or of those that there are and 0 for each other. Assumes nothing.
use Rattle.answer_words.proofs.parts.reader_of.Goals as goal

pub returns-then-state-lt-STATE_COUNT : goal.returns-then-state-lt-STATE_COUNT
returns-then-state-lt-STATE_COUNT c =
    rw (← c.word-then-state-lt-STATE_COUNT-6.ensures, ← c.word-then-state-lt-STATE_COUNT-5.ensures, ← c.word-then-state-lt-STATE_COUNT-4.ensures, ← c.word-then-state-lt-STATE_COUNT-3.ensures, ← c.word-then-state-lt-STATE_COUNT-2.ensures, ← c.word-then-state-lt-STATE_COUNT.ensures, ← c.word.ensures) c.reader_in.ensures
