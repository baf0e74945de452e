-- The values with the base added, and then the patches. Assumes nothing.
use native.Mathlib.Omega.{arith}
use Rattle.util.proofs.Grow.{rest-is}
use Rattle.rle_v2.proofs.patched_base.put.Goals as goal

pub put-requires : goal.put-requires
put-requires c =
    let f = c.args.f in
    let r = c.requires.0 in
    rw (rest-is c.args.input.now f.list.bytes) (omega arith, r.in_place)

pub returns : goal.returns
returns c =
    let a = c.args in
    rw (
      ← (rw (rest-is a.input.now a.f.values.bytes, c.base_value-base.ensures) at c.lay.ensures),
      ← (rest-is a.input.now a.f.list.bytes),
    )
    c.put.ensures
