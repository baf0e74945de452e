-- Assumes nothing.
use mathlib.Core.List.{List}
use Prim.Native.Nat.{ℕ}
use Rattle.format.proofs.Below.{below_all}
use Rattle.boolean_rle.proofs.FlagReader.{flags-given}
use Rattle.boolean_rle.proofs.flags.read_flags.Goals as goal

pub returns : goal.returns
returns c =
    let s : List ℕ = c.args.input.now in
    flags-given s (below_all 256 s (λ i. (c.type_inv.input i).fits)) _ _ _ _ _ c.read_batch.ensures
