use mathlib.Core.Path.{◌≡◌, refl}
use Prim.Native.Nat.{◌<◌}
use native.Mathlib.Omega.{arith}
use lib.ListN.{length, length-set}
use Rattle.format.specs.Digits.{digits}
use Rattle.format.proofs.Digits.{length_digits}
use Rattle.boolean_rle.proofs.RunBytes.{wrote_none, one_more}
use Rattle.boolean_rle.proofs.ByteBits.{bit-here, left-next}
use Rattle.boolean_rle.proofs.put_byte.Goals as goal

pub loop-j-init : goal.loop-j-init
loop-j-init c =
    let a = c.args in
    (refl, c.spread-left.ensures, wrote_none a.k (digits 2 8 a.byte) a.out.now)

pub loop-j-preserved : goal.loop-j-preserved
loop-j-preserved c =
    let l = c.loop-j in
    let a = c.args in
    let more : l.j < length (digits 2 8 a.byte) = rw length_digits (omega arith) in
    let bit = bit-here a.byte l.j l.left (omega arith) l.invariant.1 in (
      simp length-set l.invariant.0,
      left-next a.byte l.j l.left (omega arith) l.invariant.1,
      one_more (digits 2 8 a.byte) a.k l.j _ a.out.now l.out more (omega arith) bit l.invariant.2,
    )

pub returns : goal.returns
returns c =
    let all : c.loop-j.j ≡ 8 = omega arith in
    rw all at c.loop-j.invariant.2

pub spread-left-requires : goal.spread-left-requires
spread-left-requires c = tt
