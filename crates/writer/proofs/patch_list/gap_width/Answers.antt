-- A gap of 0 takes one bit all the same, and any other its bit length. Assumes nothing.
use Rattle.format.proofs.Common.{arith}
use Rattle.writer.proofs.PatchedLaws.{gap_bits, gap-none}
use Rattle.writer.proofs.patch_list.gap_width.Goals as goal

pub returns-then-bits-eq0 : goal.returns-then-bits-eq0
returns-then-bits-eq0 c = gap-none _ _ c.bit_length-bits.ensures c.if-bits-eq0.true

pub returns-else-bits-eq0 : goal.returns-else-bits-eq0
returns-else-bits-eq0 c = gap_bits _ _ c.bit_length-bits.ensures (omega arith) (omega arith)
