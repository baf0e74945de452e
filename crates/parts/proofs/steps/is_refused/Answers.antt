-- One answer of four is a refusal. Assumes nothing.
use Rattle.std.proofs.Common.{◌≡◌, false, refl}
use Rattle.format.specs.declared.Refusal as refusal
use Rattle.format.specs.declared.PartAnswer.{PartAnswer}
use Rattle.format.specs.declared.PartAnswer.TheVariants.{Run, More, Refused, End}
use Rattle.parts.specs.Steps.{is_refused}
use Rattle.parts.proofs.steps.is_refused.Goals as goal

other : (a : PartAnswer) → ((f : refusal.Refusal) → a ≡ Refused f → ⊥) → false ≡ is_refused a
unfolding is_refused
other (Run at r) n = refl
other More n = refl
other (Refused f) n = absurd (n f refl)
other End n = refl

pub returns-in-Refused : goal.returns-in-Refused
unfolding is_refused
returns-in-Refused c = rw c.in-Refused.is

pub returns-in_default : goal.returns-in_default
returns-in_default c = other _ c.in_default.not-Refused
