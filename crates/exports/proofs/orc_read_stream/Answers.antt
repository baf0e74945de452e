-- The stream reader's answer is put into the words, or there are too few of them. Assumes nothing.
use native.Mathlib.Omega.{arith}
use Rattle.answer_words.proofs.Telling.{stream-long}
use Rattle.exports.proofs.Telling.{few-of, told_of}
use Rattle.exports.proofs.orc_read_stream.Goals as goal

pub returns : goal.returns
returns c =
    told_of stream-long c.read_stream-stream.ensures.answer c.if-words-lt-STREAM_COUNT.false c.read_stream-stream.ensures.places c.put_stream.ensures

pub returns-then-words-lt-STREAM_COUNT : goal.returns-then-words-lt-STREAM_COUNT
returns-then-words-lt-STREAM_COUNT c = few-of stream-long (omega arith)
