-- The reader's words are stored, or there are too few of them. Assumes nothing.
use native.Mathlib.Omega.{arith}
use Rattle.answer_words.proofs.Telling.{few, put}
use Rattle.answer_words.proofs.PartWords.{state-long}
use Rattle.answer_words.proofs.parts.put_reader.Goals as goal

pub returns : goal.returns
returns c = put state-long c.if-state-lt-STATE_COUNT.false c.store_reader.ensures

pub returns-then-state-lt-STATE_COUNT : goal.returns-then-state-lt-STATE_COUNT
returns-then-state-lt-STATE_COUNT c = few state-long (omega arith)
