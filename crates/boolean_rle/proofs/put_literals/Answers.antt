use mathlib.Core.Path.{◌≡◌, refl, ◌∙◌}
use Prim.Native.Nat.{◌+◌, ◌*◌, ◌<◌}
use native.Mathlib.Omega.{arith}
use lib.ListN.{length, get_or, take, drop, length-drop}
use lib.Seq.{length-take-le, get_or-take, get_or-drop}
use Rattle.format.specs.Booleans.{bits}
use Rattle.boolean_rle.proofs.RunBytes.{wrote_none, byte_more}
use Rattle.boolean_rle.proofs.put_literals.Goals as goal

pub loop-i-init : goal.loop-i-init
loop-i-init c =
    let a = c.args in
    (refl, wrote_none a.k (bits (take a.count (drop a.first a.bytes.now))) a.out.now)

pub loop-i-preserved : goal.loop-i-preserved
loop-i-preserved c =
    let i = c.loop-i.i in
    let a = c.args in
    let bs = take a.count (drop a.first a.bytes.now) in
    let more : i < length bs =
    rw (length-take-le a.count (drop a.first a.bytes.now) (rw length-drop (omega arith))) (omega arith) in
    let here : get_or bs i 0 ≡ get_or a.bytes.now (a.first + i) 0 =
    get_or-take a.count (drop a.first a.bytes.now) i 0 (omega arith) ∙ get_or-drop a.first a.bytes.now i 0 in
    let next : a.k + 8 * (i + 1) ≡ a.k + 8 * i + 8 = omega arith in (
      c.put_byte.auto.out ∙ c.loop-i.invariant.0,
      rw next (byte_more bs a.k i 8 a.out.now c.loop-i.out _ more c.loop-i.invariant.1
          (rw here c.put_byte.ensures)),
    )

pub returns : goal.returns
returns c =
    let all : c.loop-i.i ≡ c.args.count = omega arith in
    rw all at c.loop-i.invariant.1
