-- A count or a width that the form does not allow has no size; the rest is what the form's own measure promises. Assumes nothing.
use Rattle.format.proofs.Common.{sym, ◌∙◌, map, length, length-map, arith}
use Rattle.format.specs.Rows.{as_u64}
use Rattle.writer.proofs.Pieces.{Allowed, allowed, short-allowed, direct-allowed, fixed-allowed, packed-allowed}
use Rattle.writer.proofs.Sizes.{no-count, no-width, measured}
use Rattle.writer.proofs.measure.Goals as goal

pub returns-then-not-width : goal.returns-then-not-width
returns-then-not-width c =
    let a = c.args in
    no-width a.signed a.form a.width (map as_u64 a.rows.now)
    (rw (length-map a.rows.now as_u64) (sym c.count.ensures ∙ c.if-not-count.false))
    (sym c.width.ensures ∙ c.if-not-width.true)

pub returns-then-not-count : goal.returns-then-not-count
returns-then-not-count c = let a = c.args in no-count a.signed a.form a.width (map as_u64 a.rows.now)
    (rw (length-map a.rows.now as_u64) (sym c.count.ensures ∙ c.if-not-count.true))

pub size-requires : goal.size-requires
size-requires c =
    let passed : Allowed c.args.form (length c.args.rows.now) c.args.width = allowed c.count.ensures c.if-not-count.false c.width.ensures c.if-not-width.false in
    short-allowed (passed) c.in-ShortRepeat.is

pub invariant_of-size : goal.invariant_of-size
invariant_of-size c =
    let passed : Allowed c.args.form (length c.args.rows.now) c.args.width = allowed c.count.ensures c.if-not-count.false c.width.ensures c.if-not-width.false in
    let p = direct-allowed (passed) c.in-Direct.is in
    record { some = p.0.0; few = p.0.1; low = p.0.2; kept = p.1 }

pub size_fixed-requires : goal.size_fixed-requires
size_fixed-requires c =
    let passed : Allowed c.args.form (length c.args.rows.now) c.args.width = allowed c.count.ensures c.if-not-count.false c.width.ensures c.if-not-width.false in
    fixed-allowed (passed) c.in-FixedDelta.is

pub size_packed-requires : goal.size_packed-requires
size_packed-requires c =
    let passed : Allowed c.args.form (length c.args.rows.now) c.args.width = allowed c.count.ensures c.if-not-count.false c.width.ensures c.if-not-width.false in
    let p = packed-allowed (passed) c.in-PackedDelta.is in
    (p.0.0, p.0.2)

pub invariant_of-size_packed : goal.invariant_of-size_packed
invariant_of-size_packed c =
    let passed : Allowed c.args.form (length c.args.rows.now) c.args.width = allowed c.count.ensures c.if-not-count.false c.width.ensures c.if-not-width.false in
    let p = packed-allowed (passed) c.in-PackedDelta.is in
    record { some = omega (arith, p.0.0); few = p.0.1; low = p.0.3; kept = p.1 }

pub returns-in-ShortRepeat : goal.returns-in-ShortRepeat
returns-in-ShortRepeat c =
    let passed : Allowed c.args.form (length c.args.rows.now) c.args.width = allowed c.count.ensures c.if-not-count.false c.width.ensures c.if-not-width.false in
    measured c.args.signed c.args.form c.args.width (map as_u64 c.args.rows.now)
    (rw (length-map c.args.rows.now as_u64) (passed)) c.size.result (rw c.in-ShortRepeat.is c.size.ensures)

pub returns-in-Direct : goal.returns-in-Direct
returns-in-Direct c =
    let passed : Allowed c.args.form (length c.args.rows.now) c.args.width = allowed c.count.ensures c.if-not-count.false c.width.ensures c.if-not-width.false in
    measured c.args.signed c.args.form c.args.width (map as_u64 c.args.rows.now)
    (rw (length-map c.args.rows.now as_u64) (passed)) c.size-in-Direct.result (rw c.in-Direct.is c.size-in-Direct.ensures)

pub returns-in-FixedDelta : goal.returns-in-FixedDelta
returns-in-FixedDelta c =
    let passed : Allowed c.args.form (length c.args.rows.now) c.args.width = allowed c.count.ensures c.if-not-count.false c.width.ensures c.if-not-width.false in
    measured c.args.signed c.args.form c.args.width (map as_u64 c.args.rows.now)
    (rw (length-map c.args.rows.now as_u64) (passed)) c.size_fixed.result (rw c.in-FixedDelta.is c.size_fixed.ensures)

pub returns-in-PackedDelta : goal.returns-in-PackedDelta
returns-in-PackedDelta c =
    let passed : Allowed c.args.form (length c.args.rows.now) c.args.width = allowed c.count.ensures c.if-not-count.false c.width.ensures c.if-not-width.false in
    measured c.args.signed c.args.form c.args.width (map as_u64 c.args.rows.now)
    (rw (length-map c.args.rows.now as_u64) (passed)) c.size_packed.result (rw c.in-PackedDelta.is c.size_packed.ensures)
