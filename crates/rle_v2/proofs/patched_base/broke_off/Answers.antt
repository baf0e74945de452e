-- Each answer is that of the tests that led there. Assumes nothing.
use borrow.Author.Tests.{lt-ltb, le-ltb}
use Rattle.rle_v2.specs.PatchedHead.{cut_body}
use Rattle.rle_v2.proofs.patched_base.broke_off.Goals as goal

pub returns-then-all-values : goal.returns-then-all-values
unfolding cut_body
returns-then-all-values c = simp (c.cut.ensures, lt-ltb _ _ c.if-all-values.true)

pub returns-then-all-list : goal.returns-then-all-list
unfolding cut_body
returns-then-all-list c = simp (c.cut-then-all-list.ensures, le-ltb _ _ c.if-all-values.false, lt-ltb _ _ c.if-all-list.true)

pub returns : goal.returns
unfolding cut_body
returns c = simp (c.cut-2.ensures, le-ltb _ _ c.if-all-values.false, le-ltb _ _ c.if-all-list.false)
