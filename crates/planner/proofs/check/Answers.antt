-- Columns of different lengths are rejected; of equal lengths the walk answers. Assumes nothing.
use mathlib.Core.Path.{sym, ◌∙◌}
use Rattle.planner.specs.Check.{proposal}
use Rattle.planner.proofs.Checking.{unequal}
use Rattle.planner.proofs.check.Goals as goal

pub returns-then-not-is_level : goal.returns-then-not-is_level
returns-then-not-is_level c =
    let a = c.args in
    unequal a.signed a.rows.now (proposal a.first.now a.counts.now a.forms.now a.widths.now a.bases.now) a.room.bytes
    (sym c.is_level.ensures ∙ c.if-not-is_level.true)

pub walk-requires : goal.walk-requires
walk-requires c = sym c.is_level.ensures ∙ c.if-not-is_level.false
