use Rattle.format.proofs.Common.{◌≡◌, sym, ◌∙◌, ap, ℕ, ◌-◌, ◌+◌, ◌*◌, ◌^◌, ◌%◌, ◌<◌, ◌≤◌, arith, length, drop, get_or}
use Rattle.format.specs.Parse.{cut_in, varint}
use Rattle.format.proofs.Below.{below_all, below-drop}
use Rattle.util.proofs.Varints.{told-from, at-end, at_last, at_long, at_next, sum_is, weight}
use Rattle.util.specs.Varint.{varint_at}
use Rattle.util.proofs.varint.read.Goals as goal

pub loop-k-init : goal.loop-k-init
unfolding varint_at
loop-k-init c =
    let a = c.args in
    told-from (cut_in 12 (drop a.at a.s.now)) a.at (drop a.at a.s.now) (below-drop 256 a.at a.s.now (below_all 256 a.s.now (λ i. (c.type_inv.s i).fits)))

pub returns-in_default : goal.returns-in_default
returns-in_default c =
    let l = c.loop-k in
    sym (l.invariant ∙ at-end c.args.s.now l.next l.bits (2 ^ (7 * l.k)) l.k _ (omega arith) c.in_default.ensures.lookup.3)

pub returns-then-last_below-b : goal.returns-then-last_below-b
returns-then-last_below-b c =
    let l = c.loop-k in
    let s = c.args.s.now in
    let b : c.in-Some.field-0.now ≡ get_or s l.next 0 = c.in-Some.ensures.lookup.3.1 0 in
    sym (l.invariant ∙ at_long s l.next l.bits (2 ^ (7 * l.k)) l.k _ (omega arith) c.in-Some.ensures.lookup.3.0
    (rw b at c.if-b-lt128.true) (rw (b, c.last_below.ensures) at c.if-last_below-b.true))

pub returns-then-b-lt128 : goal.returns-then-b-lt128
returns-then-b-lt128 c =
    let l = c.loop-k in
    let s = c.args.s.now in
    let b : c.in-Some.field-0.now ≡ get_or s l.next 0 = c.in-Some.ensures.lookup.3.1 0 in
    let e : c.group-bits.result ≡ get_or s l.next 0 % 128 * 2 ^ (7 * l.k) % 2 ^ 64 = c.group-bits.ensures ∙ rw b in
    rw (e, sum_is l.bits (get_or s l.next 0 % 128) l.k)
    (sym (l.invariant ∙ at_last s l.next l.bits (2 ^ (7 * l.k)) l.k _ (omega arith) c.in-Some.ensures.lookup.3.0
    (rw b at c.if-b-lt128.true) (rw (b, c.last_below.ensures) at c.if-last_below-b.false)))

pub loop-k-preserved : goal.loop-k-preserved
loop-k-preserved c =
    let l = c.loop-k in
    let s = c.args.s.now in
    let b : c.in-Some.field-0.now ≡ get_or s l.next 0 = c.in-Some.ensures.lookup.3.1 0 in
    let e : c.group-bits.result ≡ get_or s l.next 0 % 128 * 2 ^ (7 * l.k) % 2 ^ 64 = c.group-bits.ensures ∙ rw b in
    rw (weight l.k, e, sum_is l.bits (get_or s l.next 0 % 128) l.k)
    (l.invariant ∙ at_next s l.next l.bits (2 ^ (7 * l.k)) l.k _ (omega arith) c.in-Some.ensures.lookup.3.0 (rw b at c.if-b-lt128.false))

pub returns : goal.returns
unfolding varint
returns c = let l = c.loop-k in let z : 10 - l.k ≡ 0 = omega arith in sym (l.invariant ∙ rw z)
