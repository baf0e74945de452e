-- A refusal that more bytes may turn into another answer. Assumes nothing.
use Rattle.std.proofs.Common.{◌≡◌, false, sym, refl, ap, ◌∙◌}
use Rattle.std.specs.Prelude.{Option, Some, None, Ok}
use Rattle.format.specs.declared.Run as run
use Rattle.parts.specs.Steps.{is_cut}
use Rattle.parts.proofs.steps.is_cut.Goals as goal

-- a run, or the input's end, is not cut
not-cut : (m : Option run.Run) → false ≡ is_cut (Ok m)
unfolding is_cut
not-cut None = refl
not-cut (Some r) = refl

pub returns-in-Err : goal.returns-in-Err
unfolding is_cut
returns-in-Err c = rw c.in-Err.is c.cut_short.ensures

pub returns-in-Ok : goal.returns-in-Ok
returns-in-Ok c = not-cut _ ∙ ap is_cut (sym c.in-Ok.is)
