-- A run's byte stands where its control says. Assumes nothing.
use native.Mathlib.Omega.{arith}
use Rattle.boolean_rle.proofs.RunBytes.{byte_of}
use Rattle.boolean_rle.proofs.run.RunAt.byte.Goals as goal

pub bounds-input-at : goal.bounds-input-at
bounds-input-at c = let a = c.args in let w = byte_of a.self c.type_inv.input a.i c.requires in w.there

pub overflow_add-result : goal.overflow_add-result
overflow_add-result c = let a = c.args in let w = byte_of a.self c.type_inv.input a.i c.requires in omega (arith, w.there)

pub bounds-input-at-then-input-at-lt128 : goal.bounds-input-at-then-input-at-lt128
bounds-input-at-then-input-at-lt128 c = let a = c.args in let w = byte_of a.self c.type_inv.input a.i c.requires in (w.copied c.if-input-at-lt128.true).0

pub returns-then-input-at-lt128 : goal.returns-then-input-at-lt128
returns-then-input-at-lt128 c = let a = c.args in let w = byte_of a.self c.shared_slice_known-1.given a.i c.requires in (w.copied c.if-input-at-lt128.true).1

pub overflow_add-result-3 : goal.overflow_add-result-3
overflow_add-result-3 c = let a = c.args in let w = byte_of a.self c.type_inv.input a.i c.requires in omega (arith, (w.literal c.if-input-at-lt128.false).0)

pub bounds-input-at-2 : goal.bounds-input-at-2
bounds-input-at-2 c = let a = c.args in let w = byte_of a.self c.type_inv.input a.i c.requires in (w.literal c.if-input-at-lt128.false).0

pub returns : goal.returns
returns c = let a = c.args in let w = byte_of a.self c.shared_slice_known-1.given a.i c.requires in (w.literal c.if-input-at-lt128.false).1
