-- By its control a run's bytes are copies of one, or stand in the input; their bits are those of the part that is wanted. Assumes nothing.
use native.Mathlib.Omega.{arith}
use Prim.Native.Nat.{◌+◌, ◌*◌}
use Rattle.format.specs.Booleans.{bits}
use Rattle.format.proofs.Digits.{spread-append}
use Rattle.boolean_rle.proofs.RunParts.{part_of, wrote-front}
use Rattle.boolean_rle.proofs.run.RunAt.put_whole.Goals as goal

pub bounds-input-at : goal.bounds-input-at
bounds-input-at c = let a = c.args in let w = part_of a.self c.type_inv.input a.first a.count (omega arith) c.requires.0 in w.there

pub overflow_add-at : goal.overflow_add-at
overflow_add-at c = let a = c.args in let w = part_of a.self c.type_inv.input a.first a.count (omega arith) c.requires.0 in omega (arith, w.there)

pub bounds-input-at-then-input-at-lt128 : goal.bounds-input-at-then-input-at-lt128
bounds-input-at-then-input-at-lt128 c = let a = c.args in let w = part_of a.self c.type_inv.input a.first a.count (omega arith) c.requires.0 in (w.copied c.if-input-at-lt128.true).0

pub returns-then-input-at-lt128 : goal.returns-then-input-at-lt128
returns-then-input-at-lt128 c = let a = c.args in let w = part_of a.self c.shared_slice_known-1.given a.first a.count (omega arith) c.requires.0 in
    wrote-front bits (spread-append 2 8) a.k (a.k + 8 * a.count) a.count _ _ a.out.now _ (w.copied c.if-input-at-lt128.true).1 c.put_copies.ensures

pub overflow_add-at-3 : goal.overflow_add-at-3
overflow_add-at-3 c = let a = c.args in let w = part_of a.self c.type_inv.input a.first a.count (omega arith) c.requires.0 in omega (arith, (w.literal c.if-input-at-lt128.false).0)

pub put_literals-requires : goal.put_literals-requires
put_literals-requires c = let a = c.args in let w = part_of a.self c.type_inv.input a.first a.count (omega arith) c.requires.0 in ((w.literal c.if-input-at-lt128.false).0, omega arith)

pub returns : goal.returns
returns c = let a = c.args in let w = part_of a.self c.shared_slice_known-1.given a.first a.count (omega arith) c.requires.0 in
    wrote-front bits (spread-append 2 8) a.k (a.k + 8 * a.count) a.count _ _ a.out.now _ (w.literal c.if-input-at-lt128.false).1 c.put_literals.ensures
