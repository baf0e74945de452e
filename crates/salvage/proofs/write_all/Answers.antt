use mathlib.Core.Path.{refl}
use native.Mathlib.Omega.{arith}
use mir.Facts.{to_z-of_z}
use mir.Syntax.{w64}
use mir.Val.{to_z, of_z}
use Rattle.salvage.proofs.Turning.{turn}
use Rattle.salvage.proofs.Setting.{laid_none, stream-room, lines-room, laid_next, was-written}
use Rattle.salvage.proofs.write_all.Goals as goal

pub loop-i-init : goal.loop-i-init
loop-i-init c =
    let a = c.args in
    laid_none a.signed (to_z w64 (of_z w64 a.fill)) a.groups.input.now a.groups.starts.now a.groups.counts.now a.out.now a.report.now
    (rw (to_z-of_z {w = w64} c.ranges.fill) c.requires)

pub put_group-stream-requires : goal.put_group-stream-requires
put_group-stream-requires c =
    let a = c.args in
    let t = turn a.signed (to_z w64 (of_z w64 a.fill)) a.groups.input.now a.groups.starts.now a.groups.counts.now
    (rw (to_z-of_z {w = w64} c.ranges.fill) c.ranges.fill) c.loop-i.i c.loop-i-test.true a.groups.right.lengths c.group-group.ensures.bytes c.group-group.ensures.rows c.group-group.ensures.keep
    c.stored-first.ensures in
    stream-room a.signed (to_z w64 (of_z w64 a.fill)) a.groups.input.now a.groups.starts.now a.groups.counts.now c.loop-i.invariant
    t

pub put_line-lines-requires : goal.put_line-lines-requires
put_line-lines-requires c =
    let a = c.args in
    let t = turn a.signed (to_z w64 (of_z w64 a.fill)) a.groups.input.now a.groups.starts.now a.groups.counts.now
    (rw (to_z-of_z {w = w64} c.ranges.fill) c.ranges.fill) c.loop-i.i c.loop-i-test.true a.groups.right.lengths c.group-group.ensures.bytes c.group-group.ensures.rows c.group-group.ensures.keep
    c.stored-first.ensures in
    lines-room a.signed (to_z w64 (of_z w64 a.fill)) a.groups.input.now a.groups.starts.now a.groups.counts.now c.loop-i.invariant
    t

pub loop-i-preserved : goal.loop-i-preserved
loop-i-preserved c =
    let a = c.args in
    let t = turn a.signed (to_z w64 (of_z w64 a.fill)) a.groups.input.now a.groups.starts.now a.groups.counts.now
    (rw (to_z-of_z {w = w64} c.ranges.fill) c.ranges.fill) c.loop-i.i c.loop-i-test.true a.groups.right.lengths c.group-group.ensures.bytes c.group-group.ensures.rows c.group-group.ensures.keep
    c.stored-first.ensures in
    laid_next a.signed (to_z w64 (of_z w64 a.fill)) a.groups.input.now a.groups.starts.now a.groups.counts.now c.loop-i.invariant
    t (omega arith)
    c.put_group-stream.ensures c.put_group-stream.auto.out
    c.put_line-lines.ensures c.put_line-lines.auto.out

pub returns : goal.returns
returns c =
    let l = c.loop-i in
    let a = c.args in
    rw (to_z-of_z {w = w64} c.ranges.fill) at
    (was-written a.signed (to_z w64 (of_z w64 a.fill)) a.groups.input.now a.groups.starts.now a.groups.counts.now a.groups.right
    (rw (to_z-of_z {w = w64} c.ranges.fill) c.requires) l.invariant (omega arith) refl)

pub shape_of-out : goal.shape_of-out
shape_of-out c = c.loop-i.invariant.same_out

pub shape_of-report : goal.shape_of-report
shape_of-report c = c.loop-i.invariant.same_lines
