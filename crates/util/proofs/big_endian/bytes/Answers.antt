use Rattle.format.proofs.Common.{◌≡◌, refl, ◌∙◌, ◌+◌, ◌-◌, ◌<◌, arith, get_or, drop, get_or-take, get_or-drop}
use Rattle.format.specs.Digits.{number}
use Rattle.util.proofs.BigEndian.{number-room, number_more}
use Rattle.util.proofs.big_endian.bytes.Goals as goal

pub loop-byte-init : goal.loop-byte-init
unfolding number
loop-byte-init c = refl

-- x is of 56 bits at the most
pub overflow_mul-x : goal.overflow_mul-x
overflow_mul-x c =
    let a = c.args in
    omega (arith, c.loop-byte.invariant, number-room a.s.now a.at (λ j. (c.type_inv.s j).fits) c.loop-byte.byte-index (omega arith) (omega arith))

pub overflow_add-x : goal.overflow_add-x
overflow_add-x c =
    let a = c.args in
    let i = c.loop-byte.byte-index in
    let n : a.at + a.n - a.at ≡ a.n = omega arith in
    let h : i < a.n = omega arith in
    let e : c.from.result ≡ get_or a.s.now (a.at + i) 0 = c.from.ensures ∙ rw (n, get_or-take a.n (drop a.at a.s.now) i 0 h, get_or-drop) in
    omega (arith, c.loop-byte.invariant, e, c.type_inv.s (a.at + i), number-room a.s.now a.at (λ j. (c.type_inv.s j).fits) i (omega arith) (omega arith))

pub loop-byte-preserved : goal.loop-byte-preserved
loop-byte-preserved c =
    let a = c.args in
    let i = c.loop-byte.byte-index in
    let n : a.at + a.n - a.at ≡ a.n = omega arith in
    let h : i < a.n = omega arith in
    let e : c.from.result ≡ get_or a.s.now (a.at + i) 0 = c.from.ensures ∙ rw (n, get_or-take a.n (drop a.at a.s.now) i 0 h, get_or-drop) in
    omega (arith, c.loop-byte.invariant, e, number_more a.s.now a.at i (omega arith))

pub returns : goal.returns
returns c =
    let e : c.loop-byte.byte-index ≡ c.args.n = omega arith in
    rw (← e) c.loop-byte.invariant
