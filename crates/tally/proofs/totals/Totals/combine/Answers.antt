-- Each test that passes a limit stops with the first totals; otherwise both are put together. Assumes nothing.
use Rattle.std.proofs.Common.{sym, ◌∙◌}
use Rattle.tally.specs.Held.{combined}
use Rattle.tally.proofs.totals.Totals.combine.Goals as goal

pub returns-then-too_many : goal.returns-then-too_many
unfolding combined
returns-then-too_many c =
    rw (c.at.ensures, sym c.too_many.ensures ∙ c.if-too_many.true)

pub returns-then-too_many-2 : goal.returns-then-too_many-2
unfolding combined
returns-then-too_many-2 c =
    rw (c.at-then-too_many-2.ensures, sym c.too_many.ensures ∙ c.if-too_many.false, sym c.too_many-2.ensures ∙ c.if-too_many-2.true)

pub returns : goal.returns
unfolding combined
returns c =
    rw (
      c.together.ensures,
      sym c.too_many.ensures ∙ c.if-too_many.false,
      sym c.too_many-2.ensures
          ∙ c.if-too_many-2.false,
    )
