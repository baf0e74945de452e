-- The sizes are known before the first store; head, base, values and list are then laid one after another. Assumes nothing.
use Rattle.std.specs.Prelude.{Some, Ok}
use mathlib.Core.Path.{ap}
use Rattle.format.proofs.Common.{◌∙◌, ◌+◌, ◌*◌, ◌≤◌, arith, length}
use Rattle.format.specs.Fields.{bytes_for}
use Rattle.format.proofs.Widths.{IsWidth, least-is}
use Rattle.format.proofs.Fields.{block-small}
use Rattle.writer.proofs.Pieces.{width-known}
use Rattle.writer.proofs.PatchedLay.{Sized, no_room, laid}
use Rattle.writer.proofs.patched_base.lay.Goals as goal

pub overflow_add-patches : goal.overflow_add-patches
overflow_add-patches c =
    omega (
      arith,
      c.block_size.ensures,
      block-small c.args.h.rows.rows
          c.bits_of-bits.result (omega arith)
          (width-known _ c.bits_of-bits.ensures).le,
    )

pub overflow_add-end : goal.overflow_add-end
overflow_add-end c =
    let a = c.args in
    omega (
      arith,
      c.block_size.ensures,
      c.block_size-2.ensures,
      block-small a.h.rows.rows c.bits_of-bits.result (omega arith)
          (width-known _ c.bits_of-bits.ensures).le,
      block-small a.h.entries c.entry_width-entry.result (omega arith)
          (rw c.entry_width-entry.ensures (least-is _).le),
    )

pub returns-then-out-end : goal.returns-then-out-end
returns-then-out-end c =
    let sized : Sized c.args.h c.bits_of-bits.result
    c.entry_width-entry.result c.block_size.result c.block_size-2.result = record {
      bits_is = c.bits_of-bits.ensures;
      entry-is = c.entry_width-entry.ensures ∙ rw c.bits_of.ensures;
      values-are = c.block_size.ensures;
      list-is = c.block_size-2.ensures;
    } in
    no_room c.requires (sized) c.args.out.now c.refused.result c.if-out-end.true c.refused.ensures

pub pack-requires : goal.pack-requires
pack-requires c =
    let sized : Sized c.args.h c.bits_of-bits.result
    c.entry_width-entry.result c.block_size.result c.block_size-2.result = record {
      bits_is = c.bits_of-bits.ensures;
      entry-is = c.entry_width-entry.ensures ∙ rw c.bits_of.ensures;
      values-are = c.block_size.ensures;
      list-is = c.block_size-2.ensures;
    } in
    let w = width-known _ sized.bits_is in
    let room : 4 + c.args.h.base.bytes + bytes_for
    (c.args.h.rows.rows * c.bits_of-bits.result) ≤ length
    c.write.new.out =
    omega (
      arith,
      sized.values-are,
      c.if-out-end.false,
      c.write.auto.out,
      c.write_head.auto.out,
    ) in
    record { width = (w.pos, w.le, w.window); n_bound = (omega (arith, c.requires.rows), c.requires.rows-there, room); all_below = rw sized.bits_is c.requires.values-fit }

pub pack-requires-2 : goal.pack-requires-2
pack-requires-2 c =
    let sized : Sized c.args.h c.bits_of-bits.result
    c.entry_width-entry.result c.block_size.result c.block_size-2.result = record {
      bits_is = c.bits_of-bits.ensures;
      entry-is = c.entry_width-entry.ensures ∙ rw c.bits_of.ensures;
      values-are = c.block_size.ensures;
      list-is = c.block_size-2.ensures;
    } in
    let w : IsWidth c.entry_width-entry.result = rw c.entry_width-entry.ensures (least-is _) in
    let room : 4 + c.args.h.base.bytes + c.block_size.result + bytes_for
    (c.args.h.entries * c.entry_width-entry.result) ≤ length c.pack.new.out =
    omega (
      arith,
      sized.list-is,
      c.if-out-end.false,
      c.pack.auto.out,
      c.write.auto.out,
      c.write_head.auto.out,
    ) in
    record { width = (w.pos, w.le, w.window); n_bound = (omega (arith, c.requires.entries), c.requires.entries-there, room); all_below = rw sized.entry-is c.requires.list-fits }

pub returns : goal.returns
returns c =
    let sized : Sized c.args.h c.bits_of-bits.result
    c.entry_width-entry.result c.block_size.result c.block_size-2.result = record {
      bits_is = c.bits_of-bits.ensures;
      entry-is = c.entry_width-entry.ensures ∙ rw c.bits_of.ensures;
      values-are = c.block_size.ensures;
      list-is = c.block_size-2.ensures;
    } in
    laid c.requires (sized) c.args.out.now c.write_head.new.out
    c.write.new.out c.pack.new.out
    c.pack-2.new.out (Ok (Some c.new.result))
    c.if-out-end.false (ap (λ r. Ok (Some r)) c.new.ensures)
    c.write_head.ensures
    (rw c.sign_magnitude.ensures at c.write.ensures)
    c.pack.ensures c.pack-2.ensures

pub block_size-requires : goal.block_size-requires
block_size-requires c = ((width-known _ c.bits_of-bits.ensures).le, omega arith)

pub block_size-requires-2 : goal.block_size-requires-2
block_size-requires-2 c = (rw c.entry_width-entry.ensures (least-is _).le, omega arith)
