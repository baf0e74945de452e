use Rattle.format.proofs.Common.{refl, sym, ◌∙◌, ◌+◌, ◌^◌, ◌<◌, ◌≤◌, arith, length, get_or, take, length-set, get_or-take, pow_pos}
use Rattle.format.proofs.Common.{shr_lt}
use Rattle.format.proofs.Below.{below-getD}
use Rattle.writer.proofs.PatchedFill.{filling, no-patch, put-skip, put-entry, too_long, filled-up}
use Rattle.writer.proofs.patch_list.fill.Goals as goal

pub loop-i-preserved-then-from-i : goal.loop-i-preserved-then-from-i
loop-i-preserved-then-from-i c =
    let room : c.loop-i.k ≤ length c.loop-i.list = c.loop-i.invariant.1.room in (
      simp length-set c.loop-i.invariant.0,
      put-skip c.loop-i.invariant.1 (omega arith) (omega arith)
          (λ z. c.if-patch-eq0.false (c.above-patch.ensures ∙ z)) (omega (arith, room)) (omega arith) _ c.entry.ensures,
    )

pub loop-i-preserved : goal.loop-i-preserved
loop-i-preserved c =
    let room : c.loop-i.k ≤ length c.loop-i.list = c.loop-i.invariant.1.room in
    let new = rw c.above-patch.ensures at c.entry-else-from-i.ensures in (
      simp length-set c.loop-i.invariant.0,
      put-entry c.loop-i.invariant.1 (omega arith) (omega arith)
          (λ z. c.if-patch-eq0.false (c.above-patch.ensures ∙ z)) (omega (arith, room)) (omega arith) _ new,
    )

pub loop-i-init : goal.loop-i-init
loop-i-init c = (refl, filling _ _ _ _ _)

pub loop-i-preserved-then-patch-eq0 : goal.loop-i-preserved-then-patch-eq0
loop-i-preserved-then-patch-eq0 c = let l = c.loop-i in
    (l.invariant.0, no-patch l.invariant.1 (omega arith) (omega arith) (sym c.above-patch.ensures ∙ c.if-patch-eq0.true))

pub shape_of-list-then-k-list : goal.shape_of-list-then-k-list
shape_of-list-then-k-list c = c.loop-i.invariant.0

pub returns-then-k-list : goal.returns-then-k-list
returns-then-k-list c = too_long c.loop-i.invariant.1 (omega arith) (omega arith) (λ z. c.if-patch-eq0.false (c.above-patch.ensures ∙ z)) c.if-k-list.true

pub entry-requires : goal.entry-requires
entry-requires c = (omega arith, omega arith, pow_pos _)

pub bounds-list-k : goal.bounds-list-k
bounds-list-k c =
    let room : c.loop-i.k ≤ length c.loop-i.list = c.loop-i.invariant.1.room in
    omega (arith, room)

pub entry-requires-else-from-i : goal.entry-requires-else-from-i
entry-requires-else-from-i c =
    let patch-small : c.above-patch.result < 2 ^ c.args.pw = let l = c.loop-i in
    let a = c.args in
    let h : get_or a.vals.now l.i 0 < 2 ^ (a.pw + a.bits) =
    rw (get_or-take a.rows.rows a.vals.now l.i 0 (omega arith)) at
    (below-getD (2 ^ (a.pw + a.bits)) (take a.rows.rows a.vals.now) l.i 0 c.requires.all_below (pow_pos _)) in
    rw c.above-patch.ensures (shr_lt a.pw a.bits h) in
    (omega arith, omega arith, patch-small)

pub bounds-list-k-else-from-i : goal.bounds-list-k-else-from-i
bounds-list-k-else-from-i c =
    let room : c.loop-i.k ≤ length c.loop-i.list = c.loop-i.invariant.1.room in
    omega (arith, room)

pub shape_of-list : goal.shape_of-list
shape_of-list c = c.loop-i.invariant.0

pub returns : goal.returns
returns c = filled-up c.loop-i.invariant.1 (omega arith)
