use Rattle.format.proofs.Common.{List, ℕ, arith, length-drop}
use Rattle.byte_writer.specs.Flags.{source}
use Rattle.byte_writer.proofs.Packing.{source-le}
use Rattle.byte_writer.proofs.Walking.{Step, step, laying-begins, laying-goes-on, laying-ends}
use Rattle.byte_writer.proofs.lay.Goals as goal

pub loop-at-init : goal.loop-at-init
loop-at-init c =
    let a = c.args in
    laying-begins (source a.packed a.s.now) a.out.now

pub put-requires : goal.put-requires
put-requires c =
    let bytes : List ℕ = source c.args.packed c.args.s.now in
    let found : Step (bytes) c.loop-at.at c.next_at-next.result = step (bytes) c.loop-at.at c.next_at-next.result (omega arith) c.next_at-next.ensures in
    let inv = c.loop-at.invariant in
    let f = found in
    record {
      some = rw length-drop (omega arith);
      found = c.next_at-next.ensures;
      room = omega (arith, f.size_is, f.less, inv.so_far, inv.same, c.requires);
    }

pub size-place-requires : goal.size-place-requires
size-place-requires c =
    let bytes : List ℕ = source c.args.packed c.args.s.now in
    let found : Step (bytes) c.loop-at.at c.next_at-next.result = step (bytes) c.loop-at.at c.next_at-next.result (omega arith) c.next_at-next.ensures in
    found.few

pub overflow_add-place : goal.overflow_add-place
overflow_add-place c =
    let bytes : List ℕ = source c.args.packed c.args.s.now in
    let found : Step (bytes) c.loop-at.at c.next_at-next.result = step (bytes) c.loop-at.at c.next_at-next.result (omega arith) c.next_at-next.ensures in
    omega (arith, found.less, c.loop-at.invariant.so_far, c.requires, c.well_formed)

pub overflow_add-at : goal.overflow_add-at
overflow_add-at c =
    let bytes : List ℕ = source c.args.packed c.args.s.now in
    let found : Step (bytes) c.loop-at.at c.next_at-next.result = step (bytes) c.loop-at.at c.next_at-next.result (omega arith) c.next_at-next.ensures in
    let a = c.args in
    omega (arith, found.inside, source-le a.packed a.s.now)

pub loop-at-smaller : goal.loop-at-smaller
loop-at-smaller c =
    let bytes : List ℕ = source c.args.packed c.args.s.now in
    let found : Step (bytes) c.loop-at.at c.next_at-next.result = step (bytes) c.loop-at.at c.next_at-next.result (omega arith) c.next_at-next.ensures in
    omega (arith, found.some, found.inside)

pub loop-at-preserved : goal.loop-at-preserved
loop-at-preserved c =
    let bytes : List ℕ = source c.args.packed c.args.s.now in
    let found : Step (bytes) c.loop-at.at c.next_at-next.result = step (bytes) c.loop-at.at c.next_at-next.result (omega arith) c.next_at-next.ensures in
    rw (c.count-at.ensures, c.size-place.ensures)
    (laying-goes-on c.requires c.loop-at.invariant (found) c.put.ensures c.put.auto.out)

pub shape_of-out : goal.shape_of-out
shape_of-out c = c.loop-at.invariant.same

pub returns : goal.returns
returns c = laying-ends c.loop-at.invariant (omega arith)
