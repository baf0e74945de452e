-- By its control a run's bytes are copies of one, which are filled in, or stand in the input, and are copied. Assumes nothing.
use mathlib.Core.Path.{◌≡◌, sym, ◌∙◌}
use Prim.Native.Nat.{◌+◌, ◌-◌}
use native.Mathlib.Omega.{arith}
use lib.ListN.{length, take, drop, length-drop, length-replicate}
use lib.Seq.{length-take-le}
use Rattle.boolean_rle.proofs.RunParts.{part_of, wrote-part}
use Rattle.boolean_rle.proofs.run.RunAt.put_bytes.Goals as goal

pub bounds-input-at : goal.bounds-input-at
bounds-input-at c = let a = c.args in let w = part_of a.self c.type_inv.input a.first a.count (omega arith) c.requires.0 in w.there

pub overflow_add-at : goal.overflow_add-at
overflow_add-at c = let a = c.args in let w = part_of a.self c.type_inv.input a.first a.count (omega arith) c.requires.0 in omega (arith, w.there)

pub bounds-input-at-then-input-at-lt128 : goal.bounds-input-at-then-input-at-lt128
bounds-input-at-then-input-at-lt128 c = let a = c.args in let w = part_of a.self c.type_inv.input a.first a.count (omega arith) c.requires.0 in (w.copied c.if-input-at-lt128.true).0

pub returns-then-input-at-lt128 : goal.returns-then-input-at-lt128
returns-then-input-at-lt128 c = let a = c.args in let w = part_of a.self c.shared_slice_known-1.given a.first a.count (omega arith) c.requires.0 in
    let z : a.k + a.count - a.k ≡ a.count = omega arith in
    let long : length (take (a.k + a.count - a.k) (drop a.k a.out.now)) ≡ a.count = rw z (length-take-le a.count _ (rw length-drop (omega arith))) in
    let laid = rw long at (c.fill.ensures.after (λ y e. e)) in
    wrote-part a.k a.count _ _ a.out.now ((w.copied c.if-input-at-lt128.true).1 ∙ sym laid) (rw (laid, length-replicate))

pub overflow_add-start-2 : goal.overflow_add-start-2
overflow_add-start-2 c = let a = c.args in let w = part_of a.self c.type_inv.input a.first a.count (omega arith) c.requires.0 in omega (arith, (w.literal c.if-input-at-lt128.false).0)

pub overflow_add-start-3 : goal.overflow_add-start-3
overflow_add-start-3 c = let a = c.args in let w = part_of a.self c.type_inv.input a.first a.count (omega arith) c.requires.0 in omega (arith, (w.literal c.if-input-at-lt128.false).0)

pub slice_bounds-lay-end : goal.slice_bounds-lay-end
slice_bounds-lay-end c = let a = c.args in let w = part_of a.self c.type_inv.input a.first a.count (omega arith) c.requires.0 in omega (arith, (w.literal c.if-input-at-lt128.false).0)

pub returns : goal.returns
returns c = let a = c.args in let w = part_of a.self c.shared_slice_known-1.given a.first a.count (omega arith) c.requires.0 in
    let start = a.self.at + 1 + a.first in
    let there = w.literal c.if-input-at-lt128.false in
    let z : start + a.count - start ≡ a.count = omega arith in
    let laid = rw z at c.lay.ensures in
    wrote-part a.k a.count _ _ a.out.now (there.1 ∙ sym laid)
    (rw laid (length-take-le a.count _ (rw length-drop (omega (arith, there.0)))))
