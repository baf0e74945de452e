-- Rows that all fit the width have the two header bytes and the packed block; if one does not fit there is no size. Assumes nothing.
use Rattle.format.proofs.Common.{ap, ℕ, ◌+◌, arith, length}
use Rattle.format.specs.declared.Form.TheVariants.{Direct}
use Rattle.format.specs.declared.Kind.TheVariants as kind
use Rattle.format.specs.Runs.{head}
use Rattle.format.specs.Writing.{values_of}
use Rattle.format.proofs.Fields.{block-small}
use Rattle.writer.proofs.Sizes.{none}
use Rattle.writer.proofs.Pieces.{width-known}
use Rattle.writer.proofs.PackedForms.{Packed, direct-packed, too_wide, measured}
use Rattle.writer.proofs.direct.size.Goals as goal

pub returns-then-not-all_stored_fit : goal.returns-then-not-all_stored_fit
unfolding values_of
returns-then-not-all_stored_fit c =
    let known : Packed c.args.run.rows.now c.args.run.signed Direct kind.Direct c.args.run.code
    (head 1 c.args.run.code (length c.args.run.rows.now)) (length c.args.run.rows.now) c.bits_of-bits.result = direct-packed c.args.run.rows.now c.args.run.signed c.args.run.code (omega arith) (omega arith) c.args.run.kept
    c.bits_of-bits.ensures in
    none _ _ _ _ (too_wide (known) _ c.all_stored_fit.ensures c.if-not-all_stored_fit.true)

pub overflow_add-bytes : goal.overflow_add-bytes
overflow_add-bytes c =
    omega (
      arith,
      c.block_size-bytes.ensures,
      block-small (length c.args.run.rows.now) c.bits_of-bits.result (omega arith)
          (width-known c.args.run.code c.bits_of-bits.ensures).le,
    )

pub returns : goal.returns
unfolding values_of
returns c =
    let known : Packed c.args.run.rows.now c.args.run.signed Direct kind.Direct c.args.run.code
    (head 1 c.args.run.code (length c.args.run.rows.now)) (length c.args.run.rows.now) c.bits_of-bits.result = direct-packed c.args.run.rows.now c.args.run.signed c.args.run.code (omega arith) (omega arith) c.args.run.kept
    c.bits_of-bits.ensures in (
      measured (known) _ c.all_stored_fit.ensures c.if-not-all_stored_fit.false (ap (λ (x : ℕ). 2 + x) c.block_size-bytes.ensures) (omega arith)
          (omega (
            arith,
            c.block_size-bytes.ensures,
            block-small (length c.args.run.rows.now) c.bits_of-bits.result (omega arith)
                (width-known c.args.run.code c.bits_of-bits.ensures).le,
          )),
      omega arith,
    )

pub all_stored_fit-requires : goal.all_stored_fit-requires
all_stored_fit-requires c = (width-known c.args.run.code c.bits_of-bits.ensures).le

pub block_size-bytes-requires : goal.block_size-bytes-requires
block_size-bytes-requires c = ((width-known c.args.run.code c.bits_of-bits.ensures).le, omega arith)
