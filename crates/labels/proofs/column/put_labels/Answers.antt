use native.Mathlib.Omega.{arith}
use Rattle.present.proofs.SpreadLoop.{count-le, count_next}
use Rattle.labels.proofs.LabelLoop.{offsets-there, number-there, labels_next, labels-all}
use Rattle.labels.proofs.column.put_labels.Goals as goal

pub name_for-name-requires : goal.name_for-name-requires
name_for-name-requires c =
    let a = c.args in (
      number-there a.flags.now a.numbers.now a.lengths.now a.offsets.now a.starts.now a.sizes.now c.requires.0
          c.loop-i.invariant (omega arith),
      offsets-there a.flags.now a.numbers.now a.lengths.now a.offsets.now a.starts.now a.sizes.now c.requires.0,
      c.requires.1,
    )

pub overflow_add-next : goal.overflow_add-next
overflow_add-next c =
    let flags = c.args.flags.now in
    let l = c.loop-i in
    omega (arith, c.rows_for-next.ensures, l.invariant.of-starts.left, count_next flags l.i (omega arith), count-le flags)

pub loop-i-preserved : goal.loop-i-preserved
loop-i-preserved c =
    let a = c.args in
    rw (c.name_for-name.ensures, c.rows_for-next.ensures)
    (labels_next a.flags.now a.numbers.now a.lengths.now a.offsets.now a.starts.now a.sizes.now c.requires.0
    c.loop-i.invariant (omega arith))

pub returns : goal.returns
returns c =
    let a = c.args in
    labels-all a.flags.now a.numbers.now a.lengths.now a.offsets.now a.starts.now a.sizes.now c.requires.0
    c.loop-i.invariant c.loop-i-test.false

pub shape_of-starts : goal.shape_of-starts
shape_of-starts c = c.loop-i.invariant.of-starts.long

pub shape_of-sizes : goal.shape_of-sizes
shape_of-sizes c = c.loop-i.invariant.of-sizes.long
