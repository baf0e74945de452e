use mathlib.Core.Path.{◌≡◌, refl}
use Prim.Native.Nat.{◌<◌}
use native.Mathlib.Omega.{arith}
use lib.ListN.{length, drop, length-drop, length-set}
use Rattle.format.specs.Digits.{digits}
use Rattle.format.proofs.Digits.{length_digits}
use Rattle.boolean_rle.proofs.RunBytes.{wrote_none, one_more, bit_is}
use Rattle.boolean_rle.proofs.put_bits.Goals as goal

pub loop-j-init : goal.loop-j-init
loop-j-init c = (refl, wrote_none c.args.k (drop c.args.skip (digits 2 8 c.args.byte)) c.args.out.now)

pub loop-j-preserved : goal.loop-j-preserved
loop-j-preserved c =
    let l = c.loop-j in
    let a = c.args in
    let wanted = drop a.skip (digits 2 8 a.byte) in
    let more : l.j < length wanted = rw (length-drop, length_digits) (omega arith) in (
      simp length-set l.invariant.0,
      one_more wanted a.k l.j _ a.out.now l.out more (omega arith)
          (bit_is a.byte a.skip l.j (omega arith)) l.invariant.1,
    )

pub returns : goal.returns
returns c =
    let all : c.loop-j.j ≡ c.args.m = omega arith in
    rw all at c.loop-j.invariant.1
