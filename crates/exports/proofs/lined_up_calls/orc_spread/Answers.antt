-- How many rows the column has is put into the words, or there are too few of them. Assumes nothing.
use native.Mathlib.Omega.{arith}
use mir.Facts.{to_z-of_z}
use Rattle.exports.proofs.Telling.{few-of, laid, told_of}
use Rattle.exports.proofs.BatchTelling.{spread-long}
use Rattle.format.proofs.Common.{w64}
use Rattle.exports.proofs.lined_up_calls.orc_spread.Goals as goal

pub returns : goal.returns
returns c =
    let enough = c.if-words-lt-COUNT.false in
    let spread = rw (to_z-of_z {w = w64} c.ranges.fill) at c.spread-spread.ensures in
    told_of spread-long spread.answer enough spread.places (laid spread-long enough c.of-said.ensures.spread c.lay.ensures)

pub returns-then-words-lt-COUNT : goal.returns-then-words-lt-COUNT
returns-then-words-lt-COUNT c = few-of spread-long (omega arith)
