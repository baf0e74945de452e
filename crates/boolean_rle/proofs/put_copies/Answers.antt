use mathlib.Core.Path.{◌≡◌, refl, ◌∙◌}
use Prim.Native.Nat.{◌+◌, ◌*◌, ◌<◌}
use native.Mathlib.Omega.{arith}
use lib.ListN.{length, replicate, length-replicate, get_or-replicate}
use Rattle.format.specs.Booleans.{bits}
use Rattle.boolean_rle.proofs.RunBytes.{wrote_none, byte_more}
use Rattle.boolean_rle.proofs.put_copies.Goals as goal

pub loop-i-init : goal.loop-i-init
loop-i-init c =
    let a = c.args in
    (refl, wrote_none a.k (bits (replicate a.count a.byte)) a.out.now)

pub loop-i-preserved : goal.loop-i-preserved
loop-i-preserved c =
    let i = c.loop-i.i in
    let a = c.args in
    let copies = replicate a.count a.byte in
    let more : i < length copies = rw length-replicate (omega arith) in
    let next : a.k + 8 * (i + 1) ≡ a.k + 8 * i + 8 = omega arith in (
      c.put_byte.auto.out ∙ c.loop-i.invariant.0,
      rw next (byte_more copies a.k i 8 a.out.now c.loop-i.out _ more c.loop-i.invariant.1
          (rw (get_or-replicate a.count i a.byte 0 (omega arith)) c.put_byte.ensures)),
    )

pub returns : goal.returns
returns c =
    let all : c.loop-i.i ≡ c.args.count = omega arith in
    rw all at c.loop-i.invariant.1
