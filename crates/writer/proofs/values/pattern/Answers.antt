-- An i64 and its bits. Assumes nothing.
use Rattle.format.proofs.Common.{◌∙◌, w64, to_z-of_z}
use Rattle.writer.proofs.Laws.{bits-of}
use Rattle.writer.proofs.values.pattern.Goals as goal

pub returns : goal.returns
returns c = c.cast_unsigned.ensures ∙ rw (to_z-of_z {w = w64} c.ranges.row) (bits-of c.args.row)
