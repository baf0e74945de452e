-- `run::literals_at`: a full run takes no more; else the byte left alone of the stretch that follows joins it. Assumes nothing.
use Rattle.format.proofs.Common.{◌+◌, arith, drop, length-drop}
use Rattle.byte_writer.specs.Flags.{source}
use Rattle.byte_writer.specs.Choice.{stretch}
use Rattle.byte_writer.proofs.Stretches.{before-le}
use Rattle.byte_writer.proofs.Cuts.{alone-le, literals-full, literals-then}
use Rattle.byte_writer.proofs.Packing.{source-le}
use Rattle.byte_writer.proofs.run.literals_at.Goals as goal

pub returns-then-count-ge128 : goal.returns-then-count-ge128
returns-then-count-ge128 c =
    let a = c.args in
    literals-full (source a.packed a.s.now) a.at _ c.before_at-count.ensures c.if-count-ge128.true

pub overflow_add-at : goal.overflow_add-at
overflow_add-at c =
    let a = c.args in
    omega (arith, source-le a.packed a.s.now)

pub alone_at-requires : goal.alone_at-requires
alone_at-requires c =
    let a = c.args in
    let bs = source a.packed a.s.now in
    omega (arith, before-le (drop a.at bs), length-drop a.at bs)

pub overflow_add-result : goal.overflow_add-result
overflow_add-result c =
    let a = c.args in
    let bs = source a.packed a.s.now in
    omega (arith, (alone-le (stretch (drop (a.at + c.before_at-count.result) bs))).0)

pub returns : goal.returns
returns c =
    let a = c.args in
    rw c.alone_at.ensures
    (literals-then (source a.packed a.s.now) a.at _ c.before_at-count.ensures (omega arith))
