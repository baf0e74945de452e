use mathlib.Core.Path.{◌≡◌, sym, ◌∙◌}
use Prim.Native.Nat.{suc, ◌+◌}
use native.Mathlib.Omega.{arith}
use Rattle.salvage.proofs.Walking.{right-none, right-late, right-first, rising-on, rising-stops, rising-end}
use Rattle.salvage.proofs.groups.starts_right.Goals as goal

pub returns-in_default : goal.returns-in_default
returns-in_default c = right-none _ _ c.in_default.ensures.cases

pub returns-then-first-ne0 : goal.returns-then-first-ne0
returns-then-first-ne0 c = rw c.in-Some.ensures.cases.0 (right-late _ _ _ c.if-first-ne0.true)

pub loop-next-init : goal.loop-next-init
loop-next-init c = rw c.in-Some.ensures.cases.0 (right-first _ _ _ (omega arith))

pub returns-then-next-last : goal.returns-then-next-last
returns-then-next-last c = let l = c.loop-next in sym (l.invariant ∙ rising-stops _ _ l.last l.next-index (omega arith) (omega arith))

pub loop-next-preserved : goal.loop-next-preserved
loop-next-preserved c =
    let l = c.loop-next in
    let s : l.next-index + 1 ≡ suc l.next-index = omega arith in
    rw s (l.invariant ∙ rising-on _ _ l.last l.next-index (omega arith) (omega arith))

pub returns : goal.returns
returns c = let l = c.loop-next in sym (l.invariant ∙ rising-end _ _ l.last l.next-index (omega arith))
