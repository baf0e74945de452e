use Rattle.format.proofs.Common.{◌≡◌, suc, ◌+◌, ◌-◌, arith, length-set}
use Rattle.format.specs.Digits.{digits}
use Rattle.util.proofs.Grow.{grow, kept, filled}
use Rattle.util.proofs.big_endian.write.Goals as goal

pub loop-i-preserved : goal.loop-i-preserved
unfolding digits
loop-i-preserved c =
    let l = c.loop-i in
    let a = c.args in
    let e : a.n - l.i ≡ suc (a.n - 1 - l.i) = omega arith in
    let f : a.n - (l.i + 1) ≡ a.n - 1 - l.i = omega arith in
    let g : a.at + (l.i + 1) ≡ a.at + l.i + 1 = omega arith in (
      simp length-set l.invariant.0,
      rw (f, g, c.byte_of.ensures) (grow l.out (a.at + l.i) _ _ _ (omega arith) (rw e at l.invariant.1)),
      rw g (kept l.out a.out.now (a.at + l.i) _ l.invariant.2),
    )

pub returns : goal.returns
unfolding digits
returns c =
    let l = c.loop-i in
    let a = c.args in
    let e : l.i ≡ a.n = omega arith in
    let z : a.n - a.n ≡ 0 = omega arith in
    filled l.out a.out.now _ (a.at + a.n) (rw (e, z) at l.invariant.1) (rw e at l.invariant.2)
