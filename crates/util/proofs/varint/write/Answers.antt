use Rattle.format.proofs.Common.{[], ◌≡◌, refl, ap, ◌<◌, ◌-◌, ◌+◌, arith, length, set, length-set}
use Rattle.format.proofs.Varints.{shortest-last, shortest-more, shortest_in-pos}
use Rattle.format.specs.Fields.{shortest}
use Rattle.util.proofs.Grow.{grow, kept, filled}
use Rattle.util.proofs.varint.write.Goals as goal

pub loop-rest-init : goal.loop-rest-init
unfolding shortest
loop-rest-init c = (10, omega arith, omega arith, refl, refl, refl, refl)

pub bounds-out-place : goal.bounds-out-place
bounds-out-place c = let l = c.loop-rest in omega (arith, shortest_in-pos l.invariant.0 l.rest l.invariant.1 l.invariant.2)

pub overflow_add-place : goal.overflow_add-place
overflow_add-place c = let l = c.loop-rest in omega (arith, shortest_in-pos l.invariant.0 l.rest l.invariant.1 l.invariant.2)

pub loop-rest-preserved : goal.loop-rest-preserved
loop-rest-preserved c =
    let l = c.loop-rest in
    let m = shortest-more l.invariant.0 l.rest (omega arith) l.invariant.2 in
    let p = shortest_in-pos l.invariant.0 l.rest l.invariant.1 l.invariant.2 in (
      l.invariant.0 - 1,
      omega (arith, m.bytes),
      m.below,
      omega (arith, ap length m.bytes_of),
      simp length-set l.invariant.4,
      rw c.low_group-b.ensures (grow l.out l.place _ _ _ (omega arith) (rw m.bytes_of at l.invariant.5)),
      kept l.out _ l.place _ l.invariant.6,
    )

pub bounds-out-place-2 : goal.bounds-out-place-2
bounds-out-place-2 c = let l = c.loop-rest in omega (arith, shortest_in-pos l.invariant.0 l.rest l.invariant.1 l.invariant.2)

pub overflow_add-result : goal.overflow_add-result
overflow_add-result c = let l = c.loop-rest in omega (arith, shortest_in-pos l.invariant.0 l.rest l.invariant.1 l.invariant.2)

pub shape_of-out : goal.shape_of-out
shape_of-out c = let l = c.loop-rest in simp length-set l.invariant.4

pub returns : goal.returns
returns c =
    let l = c.loop-rest in
    let a = c.args in
    let k = l.invariant.0 in
    let e = shortest-last k l.rest l.invariant.1 (omega arith) in
    let n : l.place + 1 ≡ a.at + length (shortest a.x) = omega (arith, ap length e) in
    let h : l.place < length l.out = omega (arith, l.invariant.4) in
    let g = grow l.out l.place l.rest [] _ h (rw e at l.invariant.5) in
    let d = kept l.out a.out.now l.place l.rest l.invariant.6 in
    record { next = n; places = rw (← n) (filled (set l.out l.place l.rest) a.out.now _ (l.place + 1) g d) }
