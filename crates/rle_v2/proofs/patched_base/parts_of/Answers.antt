-- The parts of the body stand one after another. Assumes nothing.
use mathlib.Core.Path.{◌≡◌, refl, ◌∙◌}
use native.Mathlib.Omega.{arith}
use Rattle.format.specs.Fields.{width}
use Rattle.format.specs.Runs.{entry_width}
use Rattle.format.proofs.Rows.{width-le}
use Rattle.format.proofs.Widths.{least-le}
use Rattle.format.proofs.Fields.{block-small}
use Rattle.rle_v2.specs.PatchedHead.{value_bytes, list_bytes}
use Rattle.rle_v2.proofs.patched_base.parts_of.Goals as goal

pub block_size-requires : goal.block_size-requires
block_size-requires c = (rw c.requires.2.bits_is (width-le _), omega (arith, c.requires.1.rows))

pub overflow_add-list : goal.overflow_add-list
overflow_add-list c =
    let values-are : c.block_size.result ≡ value_bytes c.args.h = c.block_size.ensures ∙ rw c.requires.2.bits_is in
    omega (arith, values-are, block-small c.args.h.rows.rows (width c.args.h.code) c.requires.1.rows (width-le _), c.requires.1.eight, c.requires.0)

pub block_size-requires-2 : goal.block_size-requires-2
block_size-requires-2 c = (rw c.requires.2.entry-is (least-le _), omega (arith, c.requires.1.entries))

pub overflow_add-end : goal.overflow_add-end
overflow_add-end c =
    let values-are : c.block_size.result ≡ value_bytes c.args.h = c.block_size.ensures ∙ rw c.requires.2.bits_is in
    let list-is : c.block_size-2.result ≡ list_bytes c.args.h = c.block_size-2.ensures ∙ rw c.requires.2.entry-is in
    omega (
      arith,
      values-are,
      list-is,
      block-small c.args.h.rows.rows (width c.args.h.code) c.requires.1.rows (width-le _),
      block-small c.args.h.entries (entry_width c.args.h.patch c.args.h.gap) (omega (arith, c.requires.1.entries)) (least-le _),
      c.requires.1.eight,
      c.requires.0,
    )

pub returns : goal.returns
returns c =
    let values-are : c.block_size.result ≡ value_bytes c.args.h = c.block_size.ensures ∙ rw c.requires.2.bits_is in
    let list-is : c.block_size-2.result ≡ list_bytes c.args.h = c.block_size-2.ensures ∙ rw c.requires.2.entry-is in
    record { values-is = refl; list-is = rw (values-are); end_is = rw (values-are, list-is) }
