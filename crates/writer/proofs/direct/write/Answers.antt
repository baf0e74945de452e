-- There are places enough, a few for a short run and 512 for any. Assumes nothing.
use Rattle.format.proofs.Common.{refl, arith, length, rules}
use Rattle.format.specs.declared.Form.TheVariants.{Direct}
use Rattle.format.specs.declared.Kind.TheVariants as kind
use Rattle.format.specs.Fields.{width}
use Rattle.format.specs.Runs.{head}
use Rattle.writer.specs.Sizes.{unfit}
use Rattle.writer.proofs.PackedForms.{Packed, direct-packed, unfitting, too_few}
use Rattle.writer.proofs.direct.write.Goals as goal

pub returns-in_default : goal.returns-in_default
returns-in_default c =
    let known : Packed c.args.run.rows.now c.args.run.signed Direct kind.Direct c.args.run.code
    (head 1 c.args.run.code (length c.args.run.rows.now)) (length c.args.run.rows.now) (width c.args.run.code) = direct-packed c.args.run.rows.now c.args.run.signed c.args.run.code (omega arith) (omega arith) c.args.run.kept refl in
    unfitting (known) (unfit (rw c.in_default.is at c.size.ensures)) refl c.args.out.now c.refused.result c.refused.ensures

pub returns-then-out-bytes : goal.returns-then-out-bytes
returns-then-out-bytes c =
    let known : Packed c.args.run.rows.now c.args.run.signed Direct kind.Direct c.args.run.code
    (head 1 c.args.run.code (length c.args.run.rows.now)) (length c.args.run.rows.now) (width c.args.run.code) = direct-packed c.args.run.rows.now c.args.run.signed c.args.run.code (omega arith) (omega arith) c.args.run.kept refl in
    let m = rw c.in-Some.is at c.size.ensures in too_few (known) m.0 m.1 c.args.out.now c.refused-then-out-bytes.result c.if-out-bytes.true c.refused-then-out-bytes.ensures

pub write_over-requires : goal.write_over-requires
write_over-requires c = let m = rw c.in-Some.is at c.size.ensures in record { in_bounds = search rules; sized = m.0 }

pub returns-then-run-le-FEW : goal.returns-then-run-le-FEW
returns-then-run-le-FEW c = c.write_over.ensures c.answer.result c.answer.ensures

pub write_over-requires-2 : goal.write_over-requires-2
write_over-requires-2 c = let m = rw c.in-Some.is at c.size.ensures in record { in_bounds = search rules; sized = m.0 }

pub returns : goal.returns
returns c = c.write_over-2.ensures c.answer-2.result c.answer-2.ensures
