-- `runs::run` ends, and where. The loop's invariant: the arrays are as long as they were, each turn is a read, and what is left is what a turn may be given.
-- Assumes nothing.
use Rattle.std.proofs.Common.{◌≡◌, length}
use Rattle.runs.specs.Program.{Ready}
use Rattle.runs.proofs.run.Given as goal

abbrev pub invariant-loop : goal.invariant-loop
invariant-loop g l =
    (74337 ≡ length l.input) × (65536 ≡ length l.output) × (l.all.reads.count ≡ l.counter) × Ready l.input l.all.left l.all.reads l.all.said
