-- `source::packed_byte`: eight bits, each at its weight, are the byte; with fewer flags it is the last byte. Assumes nothing.
use Rattle.byte_writer.proofs.Packing.{eight-at}
use Rattle.byte_writer.proofs.source.packed_byte.Goals as goal

pub returns-then-flags-at-ge8 : goal.returns-then-flags-at-ge8
returns-then-flags-at-ge8 c =
    let a = c.args in
    rw c.joined.ensures
    (eight-at a.flags.now a.at c.bit.ensures.0 c.bit-then-flags-at-ge8.ensures.0 c.bit-then-flags-at-ge8-2.ensures.0 c.bit-then-flags-at-ge8-3.ensures.0
    c.bit-then-flags-at-ge8-4.ensures.0 c.bit-then-flags-at-ge8-5.ensures.0 c.bit-then-flags-at-ge8-6.ensures.0 c.bit-then-flags-at-ge8-7.ensures.0)

pub returns : goal.returns
returns c = c.last_byte.ensures
