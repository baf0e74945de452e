-- The batch is put into the words, or there are too few of them. Assumes nothing.
use native.Mathlib.Omega.{arith}
use Rattle.exports.proofs.Telling.{few-of, laid, told_of}
use Rattle.exports.proofs.BatchTelling.{bytes-long}
use Rattle.exports.proofs.batch_calls.orc_read_bytes.Goals as goal

pub returns : goal.returns
returns c =
    let enough = c.if-words-lt-BYTES_COUNT.false in
    let batch = c.read_bytes-batch.ensures in
    told_of bytes-long batch.answer enough batch.places (laid bytes-long enough c.of_bytes-said.ensures c.lay.ensures)

pub returns-then-words-lt-BYTES_COUNT : goal.returns-then-words-lt-BYTES_COUNT
returns-then-words-lt-BYTES_COUNT c = few-of bytes-long (omega arith)
