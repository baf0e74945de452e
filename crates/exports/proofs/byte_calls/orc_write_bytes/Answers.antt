-- What writing came to is put into the words, or there are too few of them. Assumes nothing.
use native.Mathlib.Omega.{arith}
use Rattle.exports.proofs.Telling.{few-of, laid, told_of}
use Rattle.exports.proofs.ByteTelling.{byte-runs-long}
use Rattle.exports.proofs.byte_calls.orc_write_bytes.Goals as goal

pub returns : goal.returns
returns c =
    let enough = c.if-words-lt-COUNT.false in
    let wrote = c.write_bytes-answer.ensures in
    told_of byte-runs-long wrote.answer enough wrote.places (laid byte-runs-long enough c.words_of-said.ensures c.lay.ensures)

pub returns-then-words-lt-COUNT : goal.returns-then-words-lt-COUNT
returns-then-words-lt-COUNT c = few-of byte-runs-long (omega arith)
