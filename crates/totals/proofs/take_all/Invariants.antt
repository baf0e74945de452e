-- `take_all` ends, and where. The loop's invariant: the arrays are as long as they were, each turn is a read, and what is left is what a turn may be given.
-- Assumes nothing.
use mathlib.Core.Path.{◌≡◌}
use lib.ListN.{length}
use Rattle.totals.specs.Program.{Ready}
use Rattle.totals.proofs.take_all.Given as goal

abbrev pub invariant-loop : goal.invariant-loop
invariant-loop g l =
    (74337 ≡ length l.input) × (512 ≡ length l.rows) × (l.all.reads.count ≡ l.counter) × Ready l.input l.all.next l.all.reads l.all.totals
