use Rattle.format.proofs.Common.{◌≡◌, refl, sym, ap, append-nil, ℕ, ◌+◌, ◌*◌, ◌/◌, ◌^◌, ◌≤◌, ◌<◌, add-zero, arith, length}
use Rattle.format.proofs.Common.{take, take-append-drop, take_all, length-take-le, pow_pos}
use Rattle.format.specs.Digits.{number, digits}
use Rattle.format.proofs.Below.{below-getD}
use Rattle.util.proofs.Packing.{joined-fits, full-fits, holds-joined, holds-full, full-room, whole}
use Rattle.util.proofs.packed.pack.Goals as goal
use Rattle.util.proofs.packed.pack.Goals.{then-t-lt64, else-t-lt64}

pub loop-v-init : goal.loop-v-init
unfolding number digits
loop-v-init c = record { place = omega arith; few = omega arith; top = refl; long = refl; front = rw (add-zero, append-nil); back = refl }

pub overflow_add-x : goal.overflow_add-x
overflow_add-x c =
    let a = c.args in
    let items = take a.n a.vals.now in
    let v = below-getD (2 ^ a.w) items c.loop-v.v-index 0 c.requires.all_below (pow_pos a.w) in
    record { fits = joined-fits c.loop-v.invariant c.requires.width.1 (omega arith) v c.if-t-lt64.true }

pub overflow_add-x-else-t-lt64 : goal.overflow_add-x-else-t-lt64
overflow_add-x-else-t-lt64 c =
    let a = c.args in
    let items = take a.n a.vals.now in
    let v = below-getD (2 ^ a.w) items c.loop-v.v-index 0 c.requires.all_below (pow_pos a.w) in
    record { fits = full-fits c.loop-v.invariant c.requires.width.1 (omega arith) v c.if-t-lt64.false }

pub loop-v-preserved : goal.loop-v-preserved
loop-v-preserved c =
    let a = c.args in
    let l = c.loop-v in
    let items = take a.n a.vals.now in
    let v = below-getD (2 ^ a.w) items l.v-index 0 c.requires.all_below (pow_pos a.w) in
    let h : l.v-index < length items = c.loop-v-test.true in
    let m : length items ≡ a.n = length-take-le a.n a.vals.now (omega arith) in
    let g : l.v-index < a.n = omega arith in
    elim c.if-t-lt64.branch [
      | then-t-lt64 w ↦ rw (w.out-is, w.x-is, w.t-is, w.b-is) (holds-joined l.invariant c.requires.width.1 h v w.if-t-lt64.true)
      | else-t-lt64 w ↦ rw (w.out-is, w.x-is, w.t-is, w.b-is, w.raised-x.ensures) (holds-full l.invariant c.requires.width.1 h v w.if-t-lt64.false _ (omega (arith, full-room a.w a.n l.v-index l.b l.t g l.invariant.place w.if-t-lt64.false)) w.write.ensures)
    ]

pub returns-then-t-gt0 : goal.returns-then-t-gt0
returns-then-t-gt0 c =
    let a = c.args in
    let l = c.loop-v in
    let items = take a.n a.vals.now in
    let m : length items ≡ a.n = length-take-le a.n a.vals.now (omega arith) in
    let e : l.v-index ≡ a.n = omega arith in
    let q : c.div_ceil-q.result ≡ (l.t + 7) / 8 = omega arith in
    let r : a.at + l.b + (l.t + 7) / 8 ≤ length l.out = omega (arith, ap (λ (y : ℕ). y * a.w) e) in
    rw (take_all a.n items (omega arith)) at (whole _ l.invariant e r (rw q at c.write-then-t-gt0.ensures))

pub returns-else-t-gt0 : goal.returns-else-t-gt0
unfolding digits
returns-else-t-gt0 c =
    let a = c.args in
    let l = c.loop-v in
    let items = take a.n a.vals.now in
    let m : length items ≡ a.n = length-take-le a.n a.vals.now (omega arith) in
    let e : l.v-index ≡ a.n = omega arith in
    let z : l.t ≡ 0 = omega arith in
    let r : a.at + l.b + (l.t + 7) / 8 ≤ length l.out = omega (arith, ap (λ (y : ℕ). y * a.w) e) in
    rw (take_all a.n items (omega arith))
    at (whole l.out l.invariant e r (rw (z, append-nil, add-zero) (sym (take-append-drop (a.at + l.b) l.out))))
