-- The answer's words are stored, or there are too few of them. Assumes nothing.
use native.Mathlib.Omega.{arith}
use Rattle.answer_words.proofs.Telling.{answer-long, few, put}
use Rattle.answer_words.proofs.put_answer.Goals as goal

pub returns : goal.returns
returns c = put answer-long c.if-words-lt-COUNT.false c.store_answer.ensures

pub returns-then-words-lt-COUNT : goal.returns-then-words-lt-COUNT
returns-then-words-lt-COUNT c = few answer-long (omega arith)
