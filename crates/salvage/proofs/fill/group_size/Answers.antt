-- A kept group has its own length, and any other that of its fill runs, by the branch taken. Assumes nothing.
use Rattle.salvage.proofs.fill.group_size.Goals as goal

pub returns : goal.returns
returns c = rw c.if-group.false c.runs_size.ensures

pub returns-then-group : goal.returns-then-group
returns-then-group c = rw c.if-group.true
