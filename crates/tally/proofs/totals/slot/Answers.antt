-- A number below 15 is its own place, and any other has place 0, by the branch taken. Assumes nothing.
use Rattle.std.proofs.Common.{le-ltb, lt-ltb}
use Rattle.tally.proofs.totals.slot.Goals as goal

pub returns-then-number-lt15 : goal.returns-then-number-lt15
returns-then-number-lt15 c = rw (c.from.ensures, lt-ltb _ 15 c.if-number-lt15.true)

pub returns-else-number-lt15 : goal.returns-else-number-lt15
returns-else-number-lt15 c = rw (le-ltb _ 15 c.if-number-lt15.false)
