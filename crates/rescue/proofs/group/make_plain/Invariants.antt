-- Each turn passes one run more, so what is left of the position is always made plain to the same; the turn that passes none says to what.
-- Assumes nothing.
use mathlib.Core.Path.{◌≡◌}
use Rattle.rescue.specs.Rescue.{position, made_plain}
use Rattle.rescue.proofs.group.make_plain.Given as goal

abbrev pub invariant-loop-left : goal.invariant-loop-left
invariant-loop-left l = made_plain l.input (position l.initial.place l.initial.left) ≡ made_plain l.input (position l.place l.left)

abbrev pub decreases-loop-left : goal.decreases-loop-left
decreases-loop-left l = l.left
