-- The stream's words are stored, or there are too few of them. Assumes nothing.
use native.Mathlib.Omega.{arith}
use Rattle.answer_words.proofs.Telling.{stream-long, few, put}
use Rattle.answer_words.proofs.put_stream.Goals as goal

pub returns : goal.returns
returns c = put stream-long c.if-words-lt-STREAM_COUNT.false c.store_stream.ensures

pub returns-then-words-lt-STREAM_COUNT : goal.returns-then-words-lt-STREAM_COUNT
returns-then-words-lt-STREAM_COUNT c = few stream-long (omega arith)
