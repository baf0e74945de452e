use Rattle.rle_v2.proofs.Pass.{turn-first, turn-next, turn_last, written, bits_of}
use lib.IntN.{pos}
use lib.ListN.{get_or}
use native.Mathlib.Omega.{arith}
use Rattle.rle_v2.proofs.rows.sum.Goals as goal

pub loop-row-init : goal.loop-row-init
loop-row-init c = turn-first _ _ _ _

pub loop-row-preserved : goal.loop-row-preserved
loop-row-preserved c =
    let l = c.loop-row in
    let e = rw (bits_of (get_or l.out l.row-index (pos 0)) _ (omega arith) c.cast_unsigned.ensures) at c.moved_by-x.ensures in
    turn-next _ _ _ _ l.out l.row-index _ (pos 0) _ _ l.invariant (omega arith) (rw (← e) (written _ _ (omega arith) (omega arith) c.cast_signed.ensures)) e

pub returns : goal.returns
returns c = turn_last _ _ _ _ _ _ _ c.loop-row.invariant c.loop-row-test.false
