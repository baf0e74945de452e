-- One answer of three is a run. Assumes nothing.
use Rattle.std.proofs.Common.{◌≡◌, sym, refl, ap, ◌∙◌}
use Rattle.std.specs.Prelude.{Option, Some, None, Ok, is_some}
use Rattle.format.specs.declared.Run as run
use Rattle.parts.specs.Steps.{is_whole}
use Rattle.parts.proofs.steps.is_whole.Goals as goal

whole : (m : Option run.Run) → is_some m ≡ is_whole (Ok m)
unfolding is_whole
whole None = refl
whole (Some r) = refl

pub returns-in-Ok : goal.returns-in-Ok
returns-in-Ok c = c.is_some.ensures ∙ whole _ ∙ ap is_whole (sym c.in-Ok.is)

pub returns-in-Err : goal.returns-in-Err
unfolding is_whole
returns-in-Err c = rw c.in-Err.is
