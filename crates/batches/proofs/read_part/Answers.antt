-- Of a direct run the rows stand in their places already; if another run stands there the places are as they were, and it is read aside.
-- Assumes nothing.
use native.Mathlib.Omega.{arith}
use Rattle.batches.proofs.PartInPlaces.{untouched, some-rows, end_fits, in-places-cut, in-places-whole}
use Rattle.batches.proofs.read_part.Goals as goal

-- ---- a direct run
pub overflow_sub-left : goal.overflow_sub-left
overflow_sub-left c =
    omega (arith, some-rows c.requires c.read.ensures c.in-Some.is)

pub returns-then-room-left : goal.returns-then-room-left
returns-then-room-left c =
    rw c.new.ensures (in-places-cut c.requires c.read.ensures c.in-Some.is (omega (arith, c.if-room-left.true)))

pub overflow_add-end : goal.overflow_add-end
overflow_add-end c =
    omega (arith, end_fits c.requires c.read.ensures c.in-Some.is (omega arith))

pub returns-else-room-left : goal.returns-else-room-left
returns-else-room-left c =
    rw c.up_to.ensures (in-places-whole c.requires c.read.ensures c.in-Some.is (omega (arith, c.if-room-left.false)))

-- ---- another
pub returns-in-None : goal.returns-in-None
returns-in-None c =
    rw (untouched c.requires c.read.ensures c.in-None.is) at c.read_aside.ensures
