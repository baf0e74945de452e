-- Each answer of the run reader becomes what the call does. Assumes nothing.
use mathlib.Core.Path.{◌∙◌, ap}
use Rattle.std.specs.Prelude.{Ok}
use Rattle.parts.specs.Steps.{by_answer}
use Rattle.parts.proofs.steps.on_part.Goals as goal

pub returns-in-Ok-Some : goal.returns-in-Ok-Some
unfolding by_answer
returns-in-Ok-Some c = rw ((c.in-Ok-Some.is ∙ ap Ok (rw c.in-Ok-Some.is at c.in-Ok-Some.field-0-is)), c.hand.ensures, c.saturating_sub.ensures)

pub returns-then-cut_short : goal.returns-then-cut_short
unfolding by_answer
returns-then-cut_short c = rw (c.in-Err.is, c.hold-then-cut_short.ensures, ← c.cut_short.ensures, c.if-cut_short.true)

pub returns-else-cut_short : goal.returns-else-cut_short
unfolding by_answer
returns-else-cut_short c = rw (
  c.in-Err.is,
  c.refuse.ensures,
  c.from_first.ensures,
  ← c.cut_short.ensures,
  c.if-cut_short.false,
)

pub returns-in-Ok-None : goal.returns-in-Ok-None
unfolding by_answer
returns-in-Ok-None c = rw ((c.in-Ok-None.is ∙ ap Ok (rw c.in-Ok-None.is at c.in-Ok-None.field-0-is)), c.hold.ensures)
