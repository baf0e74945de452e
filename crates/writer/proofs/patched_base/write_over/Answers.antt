-- Without a header the rows are refused; with one, the run that it describes is laid. Assumes nothing.
use Rattle.format.proofs.Common.{◌≡◌, ◌∙◌, true, false, map, to_z-of_z}
use Rattle.format.specs.Rows.{as_u64}
use Rattle.format.specs.PatchedWriting.{parts, header_holds}
use Rattle.writer.specs.PatchedBase.{Headed, PatchedLaid}
use Rattle.writer.proofs.Laws.{bits-of}
use Rattle.writer.proofs.PatchedHeader.{bad-form, formed}
use Rattle.format.proofs.Common.{w64}
use Rattle.writer.proofs.patched_base.write_over.Goals as goal

pub returns-in-None : goal.returns-in-None
returns-in-None c =
    let low-is : c.cast_unsigned-base_bits.result ≡ as_u64 c.args.base = rw (to_z-of_z {w = w64} c.ranges.base) at c.cast_unsigned-base_bits.ensures ∙ bits-of c.args.base in
    let g = c.requires in
    let a = c.args in
    let e : header_holds (parts (as_u64 a.base) a.width (map as_u64 a.rows.now)) ≡ false =
    rw (c.in-None.is, low-is) at c.header_of.ensures in
    bad-form a.rows.now a.base a.width a.out.now c.refused.result g.in_bounds.0 g.in_bounds.1 g.width_value e c.refused.ensures

pub returns-in-Some : goal.returns-in-Some
returns-in-Some c =
    let low-is : c.cast_unsigned-base_bits.result ≡ as_u64 c.args.base = rw (to_z-of_z {w = w64} c.ranges.base) at c.cast_unsigned-base_bits.ensures ∙ bits-of c.args.base in
    let header : (let a = c.args in
    Headed c.cast_unsigned-base_bits.result a.width (map as_u64 a.rows.now) c.header_of.new.vals c.header_of.new.list c.in-Some.h) = rw c.in-Some.is at c.header_of.ensures in
    let g = c.requires in
    let a = c.args in
    let e : header_holds (parts (as_u64 a.base) a.width (map as_u64 a.rows.now)) ≡ true = rw (low-is) at header.holds in
    let d : PatchedLaid (parts (as_u64 a.base) a.width (map as_u64 a.rows.now)) a.out.now c.lay.new.out c.lay.result =
    rw (header.same, low-is) at c.lay.ensures in
    formed a.rows.now a.base a.width a.out.now c.lay.result g.in_bounds.0 g.in_bounds.1 _ g.width_value e d

pub lay-requires : goal.lay-requires
lay-requires c =
    let header : (let a = c.args in
    Headed c.cast_unsigned-base_bits.result a.width (map as_u64 a.rows.now) c.header_of.new.vals c.header_of.new.list c.in-Some.h) = rw c.in-Some.is at c.header_of.ensures in
    header.ready
