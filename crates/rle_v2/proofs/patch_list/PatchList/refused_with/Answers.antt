use mathlib.Core.Path.{◌≡◌, sym}
use mathlib.Core.Bool.{Bool, true, false, ◌||◌}
use Prim.Native.Nat.{◌+◌, ◌<◌}
use lib.Dec.{leb, ltb}
use borrow.Author.Tests.{lt-ltb, le-leb, le-ltb}
use Rattle.format.specs.Fields.{pick}
use Rattle.format.specs.Runs.{patch_limit}
use Rattle.util.specs.Packed.{fields}
use Rattle.util.proofs.Window.{length_fields}
use Rattle.rle_v2.specs.PatchList.{list_number}
use Rattle.rle_v2.proofs.PatchWalk.{walk_first, walk-last, walk-large, walk-skip, walk-named, walk-stop}
use native.Mathlib.Omega.{arith}
use Rattle.rle_v2.proofs.patch_list.PatchList.refused_with.Goals as goal
use Rattle.rle_v2.proofs.patch_list.PatchList.refused_with.Goals.{then-not-skip+else-place-free+else-rows-place, else-not-skip}
use Rattle.rle_v2.proofs.patch_list.PatchList.refused_with.Goals.{then-place-free-via-then-place-free, then-place-free-via-else-place-free+then-rows-place}

three-or-seven : (t : Bool) → 0 < pick t 3 7
three-or-seven true = omega arith
three-or-seven false = omega arith

pub returns-then-limit-e : goal.returns-then-limit-e
returns-then-limit-e c =
    let l = c.loop-k in
    let a = c.args in (
      walk-large a.self.width a.self.pw a.self.count.rows (fields a.self.bits a.self.n a.self.list.now) l.k l.place l.free _ _ _ l.skip _ l.invariant c.entry-e.ensures.next c.entry-e.ensures.apart
          (rw c.patch_limit-limit.ensures at c.if-limit-e.true),
      omega arith,
    )

pub overflow_add-place : goal.overflow_add-place
overflow_add-place c = omega (arith, c.entry-e.ensures.apart.gap-lt, c.loop-k.invariant.low)

pub returns-then-place-free : goal.returns-then-place-free
returns-then-place-free c =
    let l = c.loop-k in
    let a = c.args in
    let place = l.place + c.entry-e.result.gap in
    let named : (ltb place l.free || leb a.self.count.rows place) ≡ true =
    elim c.then-place-free.branch [
      | then-place-free-via-then-place-free w ↦ rw (lt-ltb _ _ w.if-place-free.true)
      | then-place-free-via-else-place-free+then-rows-place w ↦ rw (le-ltb _ _ w.if-place-free.false, le-leb _ _ w.if-rows-place.true)
    ] in
    let e = walk-stop a.self.width a.self.pw a.self.count.rows (fields a.self.bits a.self.n a.self.list.now) l.k l.place l.free _ _ _ l.skip _ l.invariant c.entry-e.ensures.next c.entry-e.ensures.apart c.if-not-skip.true named in
    (rw c.out_of_place.ensures e, rw c.out_of_place.ensures (three-or-seven _))

pub loop-k-preserved : goal.loop-k-preserved
loop-k-preserved c =
    let small : c.entry-e.result.patch < patch_limit c.args.self.width = rw c.patch_limit-limit.ensures at c.if-limit-e.false in
    let l = c.loop-k in
    let a = c.args in
    let es = fields a.self.bits a.self.n a.self.list.now in
    elim c.if-not-skip.branch [
      | then-not-skip+else-place-free+else-rows-place w ↦
          rw w.free-is
          (walk-named a.self.width a.self.pw a.self.count.rows es l.k l.place l.free _ _ _ l.skip _ l.invariant c.entry-e.ensures.next c.entry-e.ensures.apart (small) w.if-not-skip.true w.if-place-free.false w.if-rows-place.false
          c.args.self.widths.2)
      | else-not-skip w ↦
          rw w.free-is
          (walk-skip a.self.width a.self.pw a.self.count.rows es l.k l.place l.free _ _ _ l.skip _ l.invariant c.entry-e.ensures.next c.entry-e.ensures.apart (small) w.if-not-skip.false)
    ]

pub returns-then-skip : goal.returns-then-skip
returns-then-skip c =
    let ended : (let l = c.loop-k in let a = c.args in
    pick l.skip 7 0 ≡ list_number a.self.width a.self.pw a.self.count.rows (fields a.self.bits a.self.n a.self.list.now)) = let l = c.loop-k in
    let a = c.args in
    walk-last a.self.width a.self.pw a.self.count.rows (fields a.self.bits a.self.n a.self.list.now) l.k l.place l.free l.skip l.invariant (rw length_fields c.loop-k-test.false) in
    (rw c.if-skip.true at (ended), omega arith)

pub loop-k-init : goal.loop-k-init
loop-k-init c = walk_first _ _ _ _

pub returns-else-skip : goal.returns-else-skip
returns-else-skip c =
    let ended : (let l = c.loop-k in let a = c.args in
    pick l.skip 7 0 ≡ list_number a.self.width a.self.pw a.self.count.rows (fields a.self.bits a.self.n a.self.list.now)) = let l = c.loop-k in
    let a = c.args in
    walk-last a.self.width a.self.pw a.self.count.rows (fields a.self.bits a.self.n a.self.list.now) l.k l.place l.free l.skip l.invariant (rw length_fields c.loop-k-test.false) in
    sym (rw c.if-skip.false at (ended))
