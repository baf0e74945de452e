-- Either the group was read as it is, or every place is filled. Assumes nothing.
use mir.Facts.{to_z-of_z}
use Rattle.rescue.proofs.GroupReads.{was-kept, was-filled}
use Rattle.format.proofs.Common.{w64}
use Rattle.rescue.proofs.group.rescue.Goals as goal

pub returns-then-read_between : goal.returns-then-read_between
returns-then-read_between c =
    was-kept _ c.read_between.ensures c.if-read_between.true

pub returns : goal.returns
returns c =
    was-filled _ c.read_between.ensures c.if-read_between.false (rw (to_z-of_z {w = w64} c.ranges.fill) at c.fill_all.ensures)
