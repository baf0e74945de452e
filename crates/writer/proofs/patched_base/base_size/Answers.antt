-- The bytes hold the bits of the magnitude and one more for the sign. Assumes nothing.
use Rattle.writer.proofs.PatchedLaws.{base-bytes}
use Rattle.writer.proofs.patched_base.base_size.Goals as goal

pub returns : goal.returns
returns c = base-bytes _ _ (rw c.magnitude.ensures at c.bit_length.ensures)
