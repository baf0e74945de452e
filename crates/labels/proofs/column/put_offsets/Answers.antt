-- No length is below 0, so the cast is the length. Assumes nothing.
use Prim.Native.Nat.{◌+◌}
use native.Mathlib.Omega.{arith}
use lib.IntN.{pos}
use lib.ListN.{get_or}
use mir.Syntax.{w64}
use mir.Val.{SFits}
use Rattle.std.proofs.Common.{rules}
use Rattle.labels.specs.Labels.{size_of}
use Rattle.labels.proofs.Columns.{adds-start, cast_is, cast_fits, size_in}
use Rattle.labels.proofs.OffsetLoop.{offsets-none, next-sum, offsets-next, offsets-all}
use Rattle.labels.proofs.column.put_offsets.Goals as goal

pub overflow_cast-sum : goal.overflow_cast-sum
overflow_cast-sum c =
    let f : SFits w64 (get_or c.args.lengths.now c.loop-i.i (pos 0)) = search rules in
    cast_fits _ f (size_in c.args.lengths.now c.args.block.bytes c.loop-i.i c.requires.0)

pub overflow_add-sum : goal.overflow_add-sum
unfolding size_of
overflow_add-sum c =
    let a = c.args in
    let l = c.loop-i in
    let f : SFits w64 (get_or a.lengths.now l.i (pos 0)) = search rules in
    rw (cast_is _ f (size_in a.lengths.now a.block.bytes l.i c.requires.0))
    (omega (
      arith,
      next-sum a.lengths.now a.offsets.now l.invariant (omega arith),
      adds-start a.lengths.now a.block.bytes (l.i + 1) c.requires.0,
    ))

pub loop-i-preserved : goal.loop-i-preserved
unfolding size_of
loop-i-preserved c =
    let a = c.args in
    let f : SFits w64 (get_or a.lengths.now c.loop-i.i (pos 0)) = search rules in
    rw (cast_is _ f (size_in a.lengths.now a.block.bytes c.loop-i.i c.requires.0))
    (offsets-next a.lengths.now a.offsets.now c.loop-i.invariant (omega arith) c.requires.1)

pub returns : goal.returns
returns c =
    let a = c.args in
    offsets-all a.lengths.now a.offsets.now c.loop-i.invariant c.loop-i-test.false

pub loop-i-init : goal.loop-i-init
loop-i-init c = offsets-none _ _
