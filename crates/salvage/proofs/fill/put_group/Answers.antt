-- A kept group is its bytes, and any other is its fill runs: the room asked for, and what is written, are those of the branch taken. Assumes nothing.
use Rattle.salvage.proofs.fill.put_group.Goals as goal

pub put_word-end-requires : goal.put_word-end-requires
put_word-end-requires c = rw c.if-group.true at c.requires

pub returns-then-group : goal.returns-then-group
returns-then-group c = rw c.if-group.true c.put_word-end.ensures

pub put_runs-requires : goal.put_runs-requires
put_runs-requires c = rw c.if-group.false at c.requires

pub returns : goal.returns
returns c = rw c.if-group.false c.put_runs.ensures
