-- A count or a width that the form does not allow is refused; the rest is what the form's own writer promises. Assumes nothing.
use Rattle.format.proofs.Common.{sym, ◌∙◌, length, length-map, arith}
use Rattle.format.specs.Rows.{as_u64}
use Rattle.writer.proofs.Pieces.{Allowed, allowed, short-allowed, direct-allowed, fixed-allowed, packed-allowed}
use Rattle.writer.proofs.Promised.{bad-count, bad-width}
use Rattle.writer.proofs.write_run.Goals as goal

pub returns-then-not-count : goal.returns-then-not-count
returns-then-not-count c =
    let a = c.args in
    bad-count a.rows.now a.signed a.form a.width a.out.now c.refused.result
    (rw (length-map a.rows.now as_u64) (sym c.count.ensures ∙ c.if-not-count.true))
    c.refused.ensures

pub returns-then-not-width : goal.returns-then-not-width
returns-then-not-width c =
    let a = c.args in
    bad-width a.rows.now a.signed a.form a.width a.out.now c.refused-then-not-width.result
    (rw (length-map a.rows.now as_u64) (sym c.count.ensures ∙ c.if-not-count.false))
    (sym c.width.ensures ∙ c.if-not-width.true)
    c.refused-then-not-width.ensures

pub write-requires : goal.write-requires
write-requires c =
    let passed : (let a = c.args in Allowed a.form (length a.rows.now) a.width) = allowed c.count.ensures c.if-not-count.false c.width.ensures c.if-not-width.false in
    short-allowed (passed) c.in-ShortRepeat.is

pub invariant_of-write : goal.invariant_of-write
invariant_of-write c =
    let passed : (let a = c.args in Allowed a.form (length a.rows.now) a.width) = allowed c.count.ensures c.if-not-count.false c.width.ensures c.if-not-width.false in
    let p = direct-allowed (passed) c.in-Direct.is in
    record { some = p.0.0; few = p.0.1; low = p.0.2; kept = p.1 }

pub write_fixed-requires : goal.write_fixed-requires
write_fixed-requires c =
    let passed : (let a = c.args in Allowed a.form (length a.rows.now) a.width) = allowed c.count.ensures c.if-not-count.false c.width.ensures c.if-not-width.false in
    fixed-allowed (passed) c.in-FixedDelta.is

pub write_packed-requires : goal.write_packed-requires
write_packed-requires c =
    let passed : (let a = c.args in Allowed a.form (length a.rows.now) a.width) = allowed c.count.ensures c.if-not-count.false c.width.ensures c.if-not-width.false in
    let p = packed-allowed (passed) c.in-PackedDelta.is in
    (p.0.0, p.0.2)

pub invariant_of-write_packed : goal.invariant_of-write_packed
invariant_of-write_packed c =
    let passed : (let a = c.args in Allowed a.form (length a.rows.now) a.width) = allowed c.count.ensures c.if-not-count.false c.width.ensures c.if-not-width.false in
    let p = packed-allowed (passed) c.in-PackedDelta.is in
    record { some = omega (arith, p.0.0); few = p.0.1; low = p.0.3; kept = p.1 }

pub returns-in-ShortRepeat : goal.returns-in-ShortRepeat
returns-in-ShortRepeat c = rw c.in-ShortRepeat.is c.write.ensures

pub returns-in-Direct : goal.returns-in-Direct
returns-in-Direct c = rw c.in-Direct.is c.write-in-Direct.ensures

pub returns-in-FixedDelta : goal.returns-in-FixedDelta
returns-in-FixedDelta c = rw c.in-FixedDelta.is c.write_fixed.ensures

pub returns-in-PackedDelta : goal.returns-in-PackedDelta
returns-in-PackedDelta c = rw c.in-PackedDelta.is c.write_packed.ensures
