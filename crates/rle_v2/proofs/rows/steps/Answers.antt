use Rattle.rle_v2.proofs.Pass.{turn-first, turn-next, turn_last, written}
use lib.IntN.{pos}
use mathlib.Core.Path.{refl}
use native.Mathlib.Omega.{arith}
use Rattle.rle_v2.proofs.rows.steps.Goals as goal

pub loop-row-init : goal.loop-row-init
loop-row-init c = turn-first _ _ _ _

pub loop-row-preserved : goal.loop-row-preserved
loop-row-preserved c =
    let l = c.loop-row in
    turn-next _ _ _ _ l.out l.row-index _ (pos 0) _ _ l.invariant (omega arith) (written _ _ (omega arith) (omega arith) c.cast_signed.ensures) refl

pub returns : goal.returns
returns c = turn_last _ _ _ _ _ _ _ c.loop-row.invariant c.loop-row-test.false
