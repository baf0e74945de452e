-- Each turn takes one row more: the two extremes are those of the first row and the rows so far. Assumes nothing.
use Rattle.std.proofs.Common.{◌≡◌, ◌+◌, take, Some}
use Rattle.tally.specs.Totals.{lower, higher, of_all}
use Rattle.tally.proofs.totals.range_of.Given as goal

abbrev pub invariant-loop-row : goal.invariant-loop-row
invariant-loop-row l = record {
  lowest : of_all lower (take (l.row-index + 1) l.rows) ≡ Some l.smallest;
  highest : of_all higher (take (l.row-index + 1) l.rows) ≡ Some l.largest;
}
