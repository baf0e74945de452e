-- Each answer is that of the law for the tests that led there. Assumes nothing.
use native.Mathlib.Omega.{arith}
use Rattle.format.proofs.Rows.{width-le}
use Rattle.rle_v2.proofs.DeltaRun.{packed-cut, packed-passed}
use Rattle.rle_v2.proofs.delta.packed_rows.Goals as goal

pub block_size-block-requires : goal.block_size-block-requires
block_size-block-requires c = (rw c.bits_of-bits.ensures (width-le _), omega arith)

pub returns-then-input-p : goal.returns-then-input-p
returns-then-input-p c =
    let a = c.args in
    rw c.gone.ensures
    (packed-cut a.input.now a.at.bytes a.code a.f c.requires.0 _ _ c.bits_of-bits.ensures c.block_size-block.ensures c.if-input-p.true)

pub returns : goal.returns
returns c =
    let a = c.args in
    packed-passed a.input.now a.at.bytes a.code a.f c.requires.0 _ _ c.bits_of-bits.ensures c.block_size-block.ensures c.requires.2 c.requires.3 c.if-input-p.false

pub overflow_sub-input : goal.overflow_sub-input
overflow_sub-input c = c.requires.0.within
