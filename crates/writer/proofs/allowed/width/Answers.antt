-- Each form has its own widths. Assumes nothing.
use Rattle.writer.proofs.allowed.width.Goals as goal

pub returns-in-ShortRepeat : goal.returns-in-ShortRepeat
returns-in-ShortRepeat c = rw c.in-ShortRepeat.is c.between.ensures

pub returns-in-Direct : goal.returns-in-Direct
returns-in-Direct c = rw c.in-Direct.is c.is_kept.ensures

pub returns-in-FixedDelta : goal.returns-in-FixedDelta
returns-in-FixedDelta c = rw c.in-FixedDelta.is

pub returns-in-PackedDelta : goal.returns-in-PackedDelta
returns-in-PackedDelta c = rw c.in-PackedDelta.is c.packed_width.ensures
