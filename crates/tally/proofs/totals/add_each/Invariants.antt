-- Each turn adds one count: the first i are sums, and those after them are as they were. Assumes nothing.
use Rattle.std.proofs.Common.{◌≡◌, ◌++◌, length, take, drop}
use Rattle.tally.specs.Held.{each_plus}
use Rattle.tally.proofs.totals.add_each.Given as goal

abbrev pub invariant-loop-i : goal.invariant-loop-i
invariant-loop-i g l = record {
  size : length l.sums ≡ g.row.N;
  so-far : take l.i l.sums ++ each_plus (drop l.i l.sums) (drop l.i l.more) ≡ each_plus l.fn.counts l.more;
}
