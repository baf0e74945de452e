use native.Mathlib.Omega.{arith}
use lib.ListN.{length}
use mir.Facts.{to_z-of_z}
use mir.Syntax.{w64}
use mir.Val.{to_z, of_z}
use Rattle.salvage.proofs.Turning.{turn, measured-none, measured-short, measured-few, measured-next, measured-all}
use Rattle.salvage.proofs.has_room.Goals as goal

pub loop-i-init : goal.loop-i-init
loop-i-init c =
    let a = c.args in
    measured-none a.signed (to_z w64 (of_z w64 a.fill)) a.groups.input.now a.groups.starts.now a.groups.counts.now (length a.out.now) (length a.report.now)

pub overflow_sub-out : goal.overflow_sub-out
overflow_sub-out c = c.loop-i.invariant.stream-fits

pub returns-then-out-stream : goal.returns-then-out-stream
returns-then-out-stream c =
    let a = c.args in
    let t = turn a.signed (to_z w64 (of_z w64 a.fill)) a.groups.input.now a.groups.starts.now a.groups.counts.now
    (rw (to_z-of_z {w = w64} c.ranges.fill) c.ranges.fill) c.loop-i.i c.loop-i-test.true a.groups.right.lengths c.group-group.ensures.bytes c.group-group.ensures.rows c.group-group.ensures.keep
    c.stored-first.ensures in
    rw (to_z-of_z {w = w64} c.ranges.fill) at
    (measured-short a.signed (to_z w64 (of_z w64 a.fill)) a.groups.input.now a.groups.starts.now a.groups.counts.now
    c.loop-i.invariant t (rw c.group_size-made.ensures at c.if-out-stream.true))

pub overflow_sub-report : goal.overflow_sub-report
overflow_sub-report c =
    c.loop-i.invariant.lines_fit

pub returns-then-report-lines : goal.returns-then-report-lines
returns-then-report-lines c =
    let a = c.args in
    let t = turn a.signed (to_z w64 (of_z w64 a.fill)) a.groups.input.now a.groups.starts.now a.groups.counts.now
    (rw (to_z-of_z {w = w64} c.ranges.fill) c.ranges.fill) c.loop-i.i c.loop-i-test.true a.groups.right.lengths c.group-group.ensures.bytes c.group-group.ensures.rows c.group-group.ensures.keep
    c.stored-first.ensures in
    rw (to_z-of_z {w = w64} c.ranges.fill) at
    (measured-few a.signed (to_z w64 (of_z w64 a.fill)) a.groups.input.now a.groups.starts.now a.groups.counts.now
    c.loop-i.invariant t (rw c.size-told.ensures at c.if-report-lines.true))

pub overflow_add-stream : goal.overflow_add-stream
overflow_add-stream c =
    omega (arith, c.loop-i.invariant.stream-fits, c.if-out-stream.false, c.well_formed)

pub overflow_add-lines : goal.overflow_add-lines
overflow_add-lines c =
    omega (arith, c.loop-i.invariant.lines_fit, c.if-report-lines.false, c.well_formed)

pub loop-i-preserved : goal.loop-i-preserved
loop-i-preserved c =
    let a = c.args in
    let t = turn a.signed (to_z w64 (of_z w64 a.fill)) a.groups.input.now a.groups.starts.now a.groups.counts.now
    (rw (to_z-of_z {w = w64} c.ranges.fill) c.ranges.fill) c.loop-i.i c.loop-i-test.true a.groups.right.lengths c.group-group.ensures.bytes c.group-group.ensures.rows c.group-group.ensures.keep
    c.stored-first.ensures in
    measured-next a.signed (to_z w64 (of_z w64 a.fill)) a.groups.input.now a.groups.starts.now a.groups.counts.now c.loop-i.invariant
    t (omega arith) c.group_size-made.result.bytes c.size-told.result.bytes
    c.group_size-made.ensures c.size-told.ensures
    c.if-out-stream.false c.if-report-lines.false

pub returns : goal.returns
returns c =
    let a = c.args in
    rw (to_z-of_z {w = w64} c.ranges.fill) at (measured-all a.signed (to_z w64 (of_z w64 a.fill)) a.groups.input.now a.groups.starts.now a.groups.counts.now
    c.loop-i.invariant (omega arith))
