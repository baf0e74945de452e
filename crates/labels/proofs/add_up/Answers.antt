-- An entry is read as a number, and what is left adds up if the rest does. Assumes nothing.
use Prim.Native.Nat.{suc, ◌+◌}
use mathlib.Core.Path.{◌≡◌, sym, ◌∙◌}
use native.Mathlib.Omega.{arith}
use lib.IntN.{pos}
use lib.ListN.{get_or}
use mir.Syntax.{w64}
use mir.Val.{SFits}
use Rattle.std.proofs.Common.{rules}
use Rattle.labels.proofs.Columns.{as_read, begin, left-spoilt, left_passed, left_step, left-none}
use Rattle.labels.proofs.add_up.Goals as goal

pub loop-length-init : goal.loop-length-init
loop-length-init c = let a = c.args in (omega arith, omega arith, begin a.lengths.now a.block.bytes)

pub returns-in_default : goal.returns-in_default
returns-in_default c =
    let lengths = c.args.lengths.now in
    let l = c.loop-length in
    let f : SFits w64 (get_or lengths l.length-index (pos 0)) = search rules in
    sym (l.invariant.2 ∙ left-spoilt lengths l.length-index (omega arith) l.sum _ (as_read _ f c.whole_of.ensures c.in_default.is))

pub returns-then-bytes-sum : goal.returns-then-bytes-sum
returns-then-bytes-sum c =
    let lengths = c.args.lengths.now in
    let l = c.loop-length in
    let f : SFits w64 (get_or lengths l.length-index (pos 0)) = search rules in
    sym (l.invariant.2 ∙ left_passed lengths l.length-index (omega arith) l.sum _ _ (as_read _ f c.whole_of.ensures c.in-Some.is) (omega arith))

pub loop-length-preserved : goal.loop-length-preserved
loop-length-preserved c =
    let lengths = c.args.lengths.now in
    let l = c.loop-length in
    let f : SFits w64 (get_or lengths l.length-index (pos 0)) = search rules in
    let s : l.length-index + 1 ≡ suc l.length-index = omega arith in (
      omega arith,
      omega arith,
      rw s (l.invariant.2 ∙ left_step lengths l.length-index (omega arith) l.sum _ _ (as_read _ f c.whole_of.ensures c.in-Some.is)),
    )

pub returns : goal.returns
returns c =
    let l = c.loop-length in
    sym (l.invariant.2 ∙ left-none c.args.lengths.now l.length-index l.sum _ (omega arith))
