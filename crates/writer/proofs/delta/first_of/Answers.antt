-- The pattern of row 0, as the flag has it stored. Assumes nothing.
use Rattle.format.proofs.Common.{ap, ◌∙◌, ℕ}
use Rattle.format.specs.Writing
use Rattle.writer.proofs.delta.first_of.Goals as goal

pub returns : goal.returns
returns c = c.stored.ensures ∙ ap (λ (x : ℕ). Writing.stored c.args.signed x) c.pattern_of.ensures
