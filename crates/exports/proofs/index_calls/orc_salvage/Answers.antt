-- What the salvage came to is put into the words, or there are too few of them. Assumes nothing.
use native.Mathlib.Omega.{arith}
use mir.Facts.{to_z-of_z}
use Rattle.exports.proofs.Telling.{salvage-long, few-of, laid, told_of}
use Rattle.format.proofs.Common.{w64}
use Rattle.exports.proofs.index_calls.orc_salvage.Goals as goal

pub returns-then-words-lt-COUNT : goal.returns-then-words-lt-COUNT
returns-then-words-lt-COUNT c = record { stream-told = few-of salvage-long (omega arith); report-told = few-of salvage-long (omega arith) }

pub returns : goal.returns
returns c =
    let w = rw (to_z-of_z {w = w64} c.ranges.fill) at c.salvage-outcome.ensures in
    let h = c.if-words-lt-COUNT.false in
    let p = laid salvage-long h c.of-said.ensures c.lay.ensures in
    record {
      stream-told = told_of salvage-long w.answer h w.new-stream p;
      report-told = told_of salvage-long w.answer h w.report-is p;
    }
