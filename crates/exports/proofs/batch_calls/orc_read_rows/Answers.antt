-- The batch is put into the words, or there are too few of them. Assumes nothing.
use native.Mathlib.Omega.{arith}
use Rattle.exports.proofs.Telling.{few-of, laid, told_of}
use Rattle.exports.proofs.BatchTelling.{rows_long}
use Rattle.exports.proofs.batch_calls.orc_read_rows.Goals as goal

pub returns : goal.returns
returns c =
    let enough = c.if-words-lt-ROWS_COUNT.false in
    let batch = c.read_rows-batch.ensures in
    told_of rows_long batch.answer enough batch.places (laid rows_long enough c.of_rows-said.ensures c.lay.ensures)

pub returns-then-words-lt-ROWS_COUNT : goal.returns-then-words-lt-ROWS_COUNT
returns-then-words-lt-ROWS_COUNT c = few-of rows_long (omega arith)
