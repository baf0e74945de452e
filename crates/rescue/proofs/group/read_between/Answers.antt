-- A group from nowhere has no rows, and no end is nowhere; so only between two plain positions is there a group to read. Assumes nothing.
use Rattle.rescue.proofs.GroupReads.{from-nowhere, to-nowhere}
use Rattle.rescue.proofs.group.read_between.Goals as goal

pub returns-in_default : goal.returns-in_default
returns-in_default c =
    let a = c.args in
    to-nowhere a.input.now a.from a.to a.signed a.out.now c.in_default.is-1

pub returns-in_default-2 : goal.returns-in_default-2
returns-in_default-2 c =
    let a = c.args in
    from-nowhere a.input.now a.from a.to a.signed a.out.now c.in_default.is-0
