use mathlib.Core.Path.{◌≡◌, sym, ap, ◌∙◌}
use Prim.Native.Nat.{suc, ◌+◌, ◌<◌}
use native.Mathlib.Omega.{arith}
use mathlib.Core.Bool.{◌&&◌}
use lib.ListN.{length, drop, get_or}
use borrow.Author.Tests.{eq-eqb, ne_eqb}
use Rattle.batches.specs.BatchPromise.{position_in}
use Rattle.batches.specs.declared.RowPosition.{RowPosition}
use Rattle.rescue.specs.Rescue.{positions, not_after, rising, in_order}
use Rattle.rescue.proofs.ListedColumns.{order-none, order-some, rising_step, rising-end}
use Rattle.std.proofs.lemmas.Bool.Decides.{nat_tests}
use Rattle.rescue.proofs.listed.in_order.Goals as goal
use Rattle.rescue.proofs.listed.in_order.Goals.{then-runs-ne0-via-then-runs-ne0, then-runs-ne0-via-else-runs-ne0+then-skips-ne0}

pub returns-then-is_empty : goal.returns-then-is_empty
returns-then-is_empty c =
    let a = c.args in
    sym (order-none a.end.bytes a.runs.now a.skips.now c.requires (grind (arith, nat_tests)))

pub returns-then-runs-ne0 : goal.returns-then-runs-ne0
returns-then-runs-ne0 c =
    let a = c.args in
    let h : 0 < length a.runs.now = grind (arith, nat_tests) in
    let some = order-some a.end.bytes a.runs.now a.skips.now c.requires h in
    sym (some ∙ elim c.then-runs-ne0.branch [
      | then-runs-ne0-via-then-runs-ne0 w ↦ rw (ne_eqb (get_or a.runs.now 0 0) 0 (λ e. omega arith))
      | then-runs-ne0-via-else-runs-ne0+then-skips-ne0 w ↦ rw (eq-eqb (get_or a.runs.now 0 0) 0 (omega arith), ne_eqb (get_or a.skips.now 0 0) 0 (λ e. omega arith))
    ])

pub loop-i-init : goal.loop-i-init
loop-i-init c =
    let a = c.args in
    let h : 0 < length a.runs.now = grind (arith, nat_tests) in
    let e : get_or a.runs.now 0 0 ≡ 0 = omega arith in
    let f : get_or a.skips.now 0 0 ≡ 0 = omega arith in
    (omega arith, order-some a.end.bytes a.runs.now a.skips.now c.requires h ∙ rw (e, f, c.row_position-last.ensures))

pub returns-then-not-not_after : goal.returns-then-not-not_after
returns-then-not-not_after c =
    let one-turn : (let l = c.loop-i in let a = c.args in
    let ps = positions a.runs.now a.skips.now in let next = position_in c.position_at-next.result in
    l.i < length a.runs.now → in_order a.end.bytes ps
    ≡ (not_after (position_in l.last) next && rising a.end.bytes next (drop (suc l.i) ps))) = λ h. let l = c.loop-i in
    let a = c.args in
    let rest = drop (suc l.i) (positions a.runs.now a.skips.now) in
    l.invariant.1 ∙ rising_step a.end.bytes a.runs.now a.skips.now c.requires (position_in l.last) l.i h
    ∙ sym (ap (λ (q : RowPosition). not_after (position_in l.last) (position_in q) && rising a.end.bytes (position_in q) rest)
    c.position_at-next.ensures) in
    sym (one-turn (omega arith) ∙ rw (sym c.not_after.ensures ∙ c.if-not-not_after.true))

pub loop-i-preserved : goal.loop-i-preserved
loop-i-preserved c =
    let one-turn : (let l = c.loop-i in let a = c.args in
    let ps = positions a.runs.now a.skips.now in let next = position_in c.position_at-next.result in
    l.i < length a.runs.now → in_order a.end.bytes ps
    ≡ (not_after (position_in l.last) next && rising a.end.bytes next (drop (suc l.i) ps))) = λ h. let l = c.loop-i in
    let a = c.args in
    let rest = drop (suc l.i) (positions a.runs.now a.skips.now) in
    l.invariant.1 ∙ rising_step a.end.bytes a.runs.now a.skips.now c.requires (position_in l.last) l.i h
    ∙ sym (ap (λ (q : RowPosition). not_after (position_in l.last) (position_in q) && rising a.end.bytes (position_in q) rest)
    c.position_at-next.ensures) in
    let i = c.loop-i.i in
    let n : i + 1 ≡ suc i = omega arith in
    (omega arith, rw n (one-turn (omega arith) ∙ rw (sym c.not_after.ensures ∙ c.if-not-not_after.false)))

pub returns : goal.returns
returns c =
    let l = c.loop-i in
    let a = c.args in
    sym (l.invariant.1 ∙ rising-end a.end.bytes a.runs.now a.skips.now c.requires (position_in l.last) l.i (omega arith))

pub position_at-next-requires : goal.position_at-next-requires
position_at-next-requires c = c.requires
