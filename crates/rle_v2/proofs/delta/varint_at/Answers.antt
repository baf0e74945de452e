-- A short varint is that of its bytes, and any other is the reader's. Assumes nothing.
use native.Mathlib.Omega.{arith}
use Rattle.rle_v2.proofs.ShortVarint.{none-there, one_byte, two_bytes}
use Rattle.rle_v2.proofs.delta.varint_at.Goals as goal

pub returns-then-input-p : goal.returns-then-input-p
returns-then-input-p c = let a = c.args in none-there a.input.now a.at.bytes c.if-input-p.true

pub returns-then-low-lt128 : goal.returns-then-low-lt128
returns-then-low-lt128 c =
    let a = c.args in
    one_byte a.input.now a.at.bytes c.if-input-p.false c.if-low-lt128.true

pub overflow_cast-bits : goal.overflow_cast-bits
overflow_cast-bits c = omega (arith, c.shared_slice_known-3-1.given c.args.at.bytes)

pub returns-then-high-lt128 : goal.returns-then-high-lt128
returns-then-high-lt128 c =
    let a = c.args in
    two_bytes a.input.now a.at.bytes c.if-input-p.false c.if-low-lt128.false c.if-input-after.false c.if-high-lt128.true
