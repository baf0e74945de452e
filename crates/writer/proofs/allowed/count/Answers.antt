-- Each form has its own limits. Assumes nothing.
use Rattle.writer.proofs.allowed.count.Goals as goal

pub returns-in-ShortRepeat : goal.returns-in-ShortRepeat
returns-in-ShortRepeat c = rw c.in-ShortRepeat.is c.between.ensures

pub returns-in-Direct : goal.returns-in-Direct
returns-in-Direct c = rw c.in-Direct.is c.between-in-Direct.ensures

pub returns-in-FixedDelta : goal.returns-in-FixedDelta
returns-in-FixedDelta c = rw c.in-FixedDelta.is c.between-in-FixedDelta.ensures

pub returns-in-PackedDelta : goal.returns-in-PackedDelta
returns-in-PackedDelta c = rw c.in-PackedDelta.is c.between-in-PackedDelta.ensures
