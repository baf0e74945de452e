use Rattle.format.specs.Fields.{negative}
use mathlib.Core.Path.{sym}
use native.Mathlib.Nat.{add-mod-mod}
use Rattle.rle_v2.proofs.rows.moved_by.Goals as goal

pub returns-then-falling : goal.returns-then-falling
unfolding negative
returns-then-falling c = rw c.if-falling.true (sym (add-mod-mod _ _ _))
