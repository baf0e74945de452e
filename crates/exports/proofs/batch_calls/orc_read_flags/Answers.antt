-- The batch is put into the words, or there are too few of them. Assumes nothing.
use native.Mathlib.Omega.{arith}
use Rattle.exports.proofs.Telling.{few-of, laid, told_of}
use Rattle.exports.proofs.BatchTelling.{flags_long}
use Rattle.exports.proofs.batch_calls.orc_read_flags.Goals as goal

pub returns : goal.returns
returns c =
    let enough = c.if-words-lt-FLAGS_COUNT.false in
    let batch = c.read_flags-batch.ensures in
    told_of flags_long batch.answer enough batch.places (laid flags_long enough c.of_flags-said.ensures c.lay.ensures)

pub returns-then-words-lt-FLAGS_COUNT : goal.returns-then-words-lt-FLAGS_COUNT
returns-then-words-lt-FLAGS_COUNT c = few-of flags_long (omega arith)
