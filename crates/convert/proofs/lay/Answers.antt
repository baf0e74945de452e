-- A run that has no room fills the output for good; any other stands after those that are laid. Assumes nothing.
use Rattle.format.proofs.Common.{rules}
use Rattle.convert.proofs.Lays.{lays_more}
use Rattle.convert.proofs.lay.Goals as goal

pub returns : goal.returns
returns c =
    let a = c.args in
    let w = c.in_ok-end.was in
    rw w
    (lays_more a.run.now a.n.bytes a.room.bytes a.out.now c.requires.0 _ c.if-all-filled.false (rw w at c.requires.1) _ c.put.ensures
    (search rules))
