-- Assumes nothing.
use mathlib.Core.List.{List}
use Prim.Native.Nat.{ℕ}
use Rattle.format.proofs.Below.{below_all}
use Rattle.boolean_rle.proofs.FlagReader.{flags-ready}
use Rattle.boolean_rle.proofs.flags.FlagPositionPosition.put.Goals as goal

pub put_flags-requires : goal.put_flags-requires
put_flags-requires c =
    let s : List ℕ = c.args.input.now in
    let (p, e) = c.requires.plain in
    let (q, g) = c.requires.there in
    (flags-ready s (below_all 256 s (λ i. (c.type_inv.input i).fits)) _ _ _ e _ q g, c.requires.room)
