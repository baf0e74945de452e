-- Each turn passes one entry that does not hold the row. Assumes nothing.
use mathlib.Core.Path.{◌≡◌}
use lib.ListN.{drop}
use Rattle.index.specs.Columns.{holder_in}
use Rattle.index.proofs.holder.Given as goal

abbrev pub invariant-loop-i : goal.invariant-loop-i
invariant-loop-i l = holder_in l.row.rows l.first l.at l.counts ≡ holder_in l.row.rows (drop l.i l.first) (drop l.i l.at) (drop l.i l.counts)
