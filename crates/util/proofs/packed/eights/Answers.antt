use Rattle.format.proofs.Common.{◌+◌, ◌*◌, ◌≤◌, mul-le-mul_right, arith, length}
use Rattle.util.proofs.packed.eights.Goals as goal
use Rattle.util.proofs.packed.eights.Goals.{else-v-lt8-via-then-v-lt8+else-s-b, else-v-lt8-via-else-v-lt8}

-- the eight of a turn are w bytes, and hold a word where that was tested or they are wide
pub eight-requires-clause-b_value : goal.eight-requires-clause-b_value
eight-requires-clause-b_value c =
    let a = c.args in
    let t = c.loop-turn.turn in
    let h : 8 * t + 8 ≤ a.n = omega arith in
    let m : (8 * t + 8) * a.w ≤ a.n * a.w = mul-le-mul_right a.w h in
    let q : t * a.w + a.w ≤ length a.s.now = omega (arith, c.requires.room.there) in
    let r : t * a.v + a.v ≤ length a.s.now = rw c.requires.v_value q in
    let w : t * a.v + 8 ≤ length a.s.now
    = elim c.else-v-lt8.branch [
      | else-v-lt8-via-then-v-lt8+else-s-b w ↦ w.if-s-b.false
      | else-v-lt8-via-else-v-lt8 w ↦ omega (arith, w.if-v-lt8.false, r)
    ] in
    (omega arith, r, w, omega arith)
