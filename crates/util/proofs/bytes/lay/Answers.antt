use Rattle.format.proofs.Common.{◌≡◌, refl, ◌∙◌, add-one, arith, length, length-set, append-nil, drop-cons, drop_of_length-le, take_all}
use Rattle.util.proofs.Grow.{grow}
use Rattle.util.proofs.bytes.lay.Goals as goal

pub loop-i-init : goal.loop-i-init
loop-i-init c = (omega arith, omega arith, refl)

pub loop-i-preserved : goal.loop-i-preserved
loop-i-preserved c =
    let l = c.loop-i in
    let s = c.args.from.now in (
      omega arith,
      length-set l.to l.i _ ∙ l.invariant.1,
      grow l.to l.i _ _ s (omega arith) (rw (drop-cons s l.i 0 (omega arith), ← add-one) at l.invariant.2),
    )

pub returns : goal.returns
returns c =
    let l = c.loop-i in
    let s = c.args.from.now in
    let e : l.i ≡ length s = omega arith in
    rw (e, drop_of_length-le s {i = length s} (omega arith), append-nil, take_all (length s) l.to (omega arith)) at l.invariant.2
