-- `source::byte_at`: byte i of the packed flags is the eight flags from 8·i on; of bytes it is byte i. Assumes nothing.
use Rattle.format.proofs.Common.{◌∙◌, sym, ◌<◌, arith, length}
use Rattle.byte_writer.specs.Flags.{flag_bytes}
use Rattle.byte_writer.proofs.Packing.{length-flags, byte-is}
use Rattle.byte_writer.proofs.source.byte_at.Goals as goal

pub overflow_mul-i : goal.overflow_mul-i
overflow_mul-i c =
    let there : c.args.i < length (flag_bytes c.args.s.now) = rw c.if-packed.true at c.requires in
    omega (arith, there, length-flags c.args.s.now)

pub packed_byte-requires : goal.packed_byte-requires
packed_byte-requires c =
    let there : c.args.i < length (flag_bytes c.args.s.now) = rw c.if-packed.true at c.requires in
    let n = length-flags c.args.s.now in
    (omega (arith, there, n), omega (arith, there, n))

pub returns-then-packed : goal.returns-then-packed
returns-then-packed c =
    let there : c.args.i < length (flag_bytes c.args.s.now) = rw c.if-packed.true at c.requires in
    let a = c.args in
    rw c.if-packed.true (c.packed_byte.ensures ∙ sym (byte-is a.i a.s.now (there)))

pub bounds-s-i : goal.bounds-s-i
bounds-s-i c = rw c.if-packed.false at c.requires

pub returns : goal.returns
returns c = rw c.if-packed.false
