-- Assumes nothing.
use mathlib.Core.List.{List}
use Prim.Native.Nat.{ℕ}
use Rattle.format.proofs.Below.{below_all}
use Rattle.boolean_rle.proofs.ByteReader.{bytes-room}
use Rattle.boolean_rle.proofs.bytes.BytePositionPosition.put.Goals as goal

pub put_values-requires : goal.put_values-requires
put_values-requires c =
    let s : List ℕ = c.args.input.now in
    let (q, g) = c.requires.there in
    (c.requires.room, bytes-room s (below_all 256 s (λ i. (c.type_inv.input i).fits)) _ _ c.args.out.now q g)
