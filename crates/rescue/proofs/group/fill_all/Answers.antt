use mathlib.Core.Path.{refl, ◌∙◌}
use native.Mathlib.Omega.{arith}
use lib.ListN.{length-set}
use mir.Syntax.{w64}
use mir.Facts.{to_z-of_z}
use Rattle.rescue.proofs.ListParts.{fill-next, fill-last}
use Rattle.rescue.proofs.group.fill_all.Goals as goal

pub loop-i-preserved : goal.loop-i-preserved
loop-i-preserved c =
    let l = c.loop-i in (
      simp length-set (omega arith),
      length-set l.out l.i _ ∙ l.invariant.1,
      fill-next _ l.out l.i (omega arith) l.invariant.2,
    )

pub returns : goal.returns
returns c =
    let l = c.loop-i in
    rw (to_z-of_z {w = w64} c.ranges.row) at (fill-last _ l.out l.i _ (omega arith) l.invariant.1 l.invariant.2)

pub loop-i-init : goal.loop-i-init
loop-i-init c = (omega arith, refl, refl)

pub shape_of-out : goal.shape_of-out
shape_of-out c = c.loop-i.invariant.1
