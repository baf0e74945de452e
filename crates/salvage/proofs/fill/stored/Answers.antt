-- The row's 64 bits, which a signed stream stores by zigzag and another as they are. Assumes nothing.
use Rattle.std.proofs.Common.{◌≡◌, ℤ, pos, negsuc, refl, ap, ◌∙◌, arith, to_z-of_z, w64, of_z}
use Rattle.format.specs.Fields.{zigzagged}
use Rattle.format.specs.Rows.{as_u64}
use Rattle.format.specs.Writing
use Rattle.salvage.proofs.fill.stored.Goals as goal

bits_are : (z : ℤ) → of_z w64 z ≡ as_u64 z
bits_are (pos n) = refl
bits_are (negsuc n) = omega arith

pub returns-then-signed : goal.returns-then-signed
unfolding Writing.stored
returns-then-signed c =
    let e : c.cast_unsigned-bits.result ≡ as_u64 c.args.fill = rw (c.cast_unsigned-bits.ensures, to_z-of_z {w = w64} c.ranges.fill) (bits_are c.args.fill) in
    rw c.if-signed.true (c.zigzag_of.ensures ∙ ap zigzagged e)

pub returns-else-signed : goal.returns-else-signed
unfolding Writing.stored
returns-else-signed c =
    let e : c.cast_unsigned-bits.result ≡ as_u64 c.args.fill = rw (c.cast_unsigned-bits.ensures, to_z-of_z {w = w64} c.ranges.fill) (bits_are c.args.fill) in
    rw c.if-signed.false e
