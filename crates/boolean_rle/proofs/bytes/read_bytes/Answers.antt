-- Assumes nothing.
use mathlib.Core.List.{List}
use Prim.Native.Nat.{ℕ}
use Rattle.format.proofs.Below.{below_all}
use Rattle.boolean_rle.proofs.ByteReader.{bytes-given}
use Rattle.boolean_rle.proofs.bytes.read_bytes.Goals as goal

pub returns : goal.returns
returns c =
    let s : List ℕ = c.args.input.now in
    bytes-given s (below_all 256 s (λ i. (c.type_inv.input i).fits)) _ _ _ _ _ c.read_batch.ensures
