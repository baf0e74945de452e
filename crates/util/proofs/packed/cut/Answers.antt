-- The mask is of w set bits, and masking is a remainder. Assumes nothing.
use Rattle.format.proofs.Common.{◌∙◌, ap, ◌/◌, ◌^◌, arith}
use lib.Bits.{bit_and, and_mask}
use Rattle.util.proofs.Window.{mask}
use Rattle.util.proofs.packed.cut.Goals as goal

pub returns : goal.returns
returns c =
    let a = c.args in
    ap (bit_and (a.x / 2 ^ a.low)) (mask a.w (omega arith)) ∙ and_mask (a.x / 2 ^ a.low) a.w
