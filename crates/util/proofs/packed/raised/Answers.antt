-- Bits that are shifted out do not matter. Assumes nothing.
use Rattle.format.proofs.Common.{ap, ◌∙◌, ℕ, ◌-◌, ◌*◌, ◌/◌, ◌%◌, ◌^◌, arith}
use Rattle.util.proofs.Packing.{raised_is}
use Rattle.util.proofs.packed.raised.Goals as goal

pub returns : goal.returns
returns c =
    let a = c.args in
    raised_is a.x (a.c / 2) (a.c - a.c / 2) ∙ ap (λ (y : ℕ). a.x * 2 ^ y % 2 ^ 64) (omega arith)
