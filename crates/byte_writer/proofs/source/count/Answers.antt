-- `source::count`: packed flags are as many as the bytes for their number. Assumes nothing.
use Rattle.byte_writer.proofs.Packing.{length-flags}
use mathlib.Core.Path.{◌∙◌}
use Rattle.boolean_rle.proofs.FirstPass.{ceil-is}
use Rattle.byte_writer.proofs.source.count.Goals as goal

pub returns-then-packed : goal.returns-then-packed
returns-then-packed c = rw (c.if-packed.true, length-flags c.args.s.now) (c.div_ceil.ensures ∙ ceil-is _)

pub returns-else-packed : goal.returns-else-packed
returns-else-packed c = rw c.if-packed.false
