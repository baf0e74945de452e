-- The four header bytes are taken apart, and the answer is the body's. Assumes nothing.
use native.Mathlib.Omega.{arith}
use Prim.Native.Nat.{◌+◌}
use Rattle.rle_v2.proofs.PatchedRun.{no_header, is_body}
use Rattle.rle_v2.proofs.patched_base.headed.Goals as goal

pub returns-then-input-p-lt4 : goal.returns-then-input-p-lt4
returns-then-input-p-lt4 c =
    rw c.new.ensures
    (no_header c.args.input.now c.args.at.bytes c.requires c.if-input-p-lt4.true)

pub overflow_cast-base : goal.overflow_cast-base
overflow_cast-base c = omega (arith, c.type_inv.input (c.args.at.bytes + 2))

pub overflow_add-base : goal.overflow_add-base
overflow_add-base c = omega (arith, c.type_inv.input (c.args.at.bytes + 2))

pub overflow_cast-gap : goal.overflow_cast-gap
overflow_cast-gap c = omega (arith, c.type_inv.input (c.args.at.bytes + 3))

pub overflow_add-gap : goal.overflow_add-gap
overflow_add-gap c = omega (arith, c.type_inv.input (c.args.at.bytes + 3))

pub by_widths-requires : goal.by_widths-requires
by_widths-requires c =
    let h = c.two_bytes-h.ensures in
    let a = c.args in
    let g = c.type_inv.input in (
      omega arith,
      record {
        code = omega (arith, h.0);
        rows = h.2;
        some_bytes = omega arith;
        eight = omega (arith, g (a.at.bytes + 2));
        patch = omega arith;
        some-gap = omega arith;
        gap = omega (arith, g (a.at.bytes + 3));
        entries = omega arith;
      },
    )

pub returns : goal.returns
returns c =
    let h = c.two_bytes-h.ensures in
    let a = c.args in
    rw (is_body a.input.now a.at.bytes c.if-input-p-lt4.false) (rw (h.0, h.1) at c.by_widths.ensures)
