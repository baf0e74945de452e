-- Field by field, what the callees promise is the definition's field. Assumes nothing.
use Rattle.tally.specs.Held.{together}
use Rattle.tally.proofs.totals.Totals.together.Goals as goal

pub returns : goal.returns
unfolding together
returns c = rw (c.plus.ensures, c.higher.ensures, c.lower.ensures, c.add_each-2.ensures, c.add_each.ensures)
