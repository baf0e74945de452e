-- Counting nothing is the definition's empty totals, field by field. Assumes nothing.
use Rattle.std.proofs.Common.{sym, ◌∙◌}
use Rattle.tally.proofs.Held.{no_line}
use Rattle.tally.proofs.totals.Totals.empty.Goals as goal

pub returns : goal.returns
returns c = c.counting.ensures ∙ sym no_line
