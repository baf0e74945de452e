-- There are places enough, a few for a short run and 512 for any. Assumes nothing.
use Rattle.format.proofs.Common.{refl, List, map, ℕ, ◌-◌, arith, length, rules}
use Rattle.format.specs.declared.Form.TheVariants.{PackedDelta}
use Rattle.format.specs.declared.Kind.TheVariants as kind
use Rattle.format.specs.Fields.{width, zigzagged}
use Rattle.format.specs.Rows.{as_u64}
use Rattle.format.specs.Writing.{first_of, base_delta}
use Rattle.writer.specs.Start.{start}
use Rattle.writer.specs.Sizes.{unfit}
use Rattle.writer.proofs.PackedForms.{Packed, delta-packed, unfitting, too_few}
use Rattle.writer.proofs.delta.write_packed.Goals as goal

pub returns-in_default : goal.returns-in_default
returns-in_default c =
    let rs : List ℕ = map as_u64 c.args.run.rows.now in
    let known : Packed c.args.run.rows.now c.args.run.signed PackedDelta kind.Delta c.args.run.code
    (start c.args.run.code (length c.args.run.rows.now) (first_of c.args.run.signed (rs)) (zigzagged (base_delta (rs))))
    (length c.args.run.rows.now - 2) (width c.args.run.code) = delta-packed c.args.run.rows.now c.args.run.signed (omega arith) c.args.run.code (omega arith) (omega arith) c.args.run.kept refl in
    unfitting (known) (unfit (rw c.in_default.is at c.size_packed.ensures)) refl c.args.out.now
    c.refused.result c.refused.ensures

pub returns-then-out-bytes : goal.returns-then-out-bytes
returns-then-out-bytes c =
    let rs : List ℕ = map as_u64 c.args.run.rows.now in
    let known : Packed c.args.run.rows.now c.args.run.signed PackedDelta kind.Delta c.args.run.code
    (start c.args.run.code (length c.args.run.rows.now) (first_of c.args.run.signed (rs)) (zigzagged (base_delta (rs))))
    (length c.args.run.rows.now - 2) (width c.args.run.code) = delta-packed c.args.run.rows.now c.args.run.signed (omega arith) c.args.run.code (omega arith) (omega arith) c.args.run.kept refl in
    let m = rw c.in-Some.is at c.size_packed.ensures in too_few (known) m.0 m.1 c.args.out.now c.refused-then-out-bytes.result c.if-out-bytes.true c.refused-then-out-bytes.ensures

pub write_packed_over-requires : goal.write_packed_over-requires
write_packed_over-requires c = let m = rw c.in-Some.is at c.size_packed.ensures in record { in_bounds = search rules; sized = m.0 }

pub returns-then-run-le-FEW : goal.returns-then-run-le-FEW
returns-then-run-le-FEW c = c.write_packed_over.ensures c.answer.result c.answer.ensures

pub write_packed_over-requires-2 : goal.write_packed_over-requires-2
write_packed_over-requires-2 c = let m = rw c.in-Some.is at c.size_packed.ensures in record { in_bounds = search rules; sized = m.0 }

pub returns : goal.returns
returns c = c.write_packed_over-2.ensures c.answer-2.result c.answer-2.ensures
