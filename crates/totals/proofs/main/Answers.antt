-- `main` tells the totals that were reached, by what reading ended with. Assumes nothing.
use Rattle.totals.proofs.main.Goals as goal

pub tell-requires : goal.tell-requires
tell-requires c = rw c.in-Ended.is at c.take_all-all.ensures

pub tell-requires-in-Stopped : goal.tell-requires-in-Stopped
tell-requires-in-Stopped c = rw c.in-Stopped.is at c.take_all-all.ensures
