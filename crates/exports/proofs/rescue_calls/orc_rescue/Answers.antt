-- What was rescued is put into the words, or there are too few of them. Assumes nothing.
use native.Mathlib.Omega.{arith}
use mir.Facts.{to_z-of_z}
use Rattle.exports.proofs.Telling.{laid}
use Rattle.exports.proofs.RescueTelling.{rescue-long, rescue-few, rescue-told}
use Rattle.format.proofs.Common.{w64}
use Rattle.exports.proofs.rescue_calls.orc_rescue.Goals as goal

pub returns : goal.returns
returns c =
    let enough = c.if-words-lt-COUNT.false in
    let rescued = rw (to_z-of_z {w = w64} c.ranges.fill) at c.rescue-rescued.ensures in
    rescue-told rescued enough (laid rescue-long enough c.of-said.ensures c.lay.ensures)

pub returns-then-words-lt-COUNT : goal.returns-then-words-lt-COUNT
returns-then-words-lt-COUNT c = rescue-few (omega arith)
