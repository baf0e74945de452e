-- The field is half a word or a quarter, or the first word of the eight holds it, or its own window
-- does. Assumes nothing.
use Rattle.format.proofs.Common.{◌≡◌, sym, ap, ◌∙◌, ℕ, ◌+◌, ◌-◌, ◌*◌, ◌≤◌, ◌<◌, mul-le-mul, mul-le-mul_right, arith}
use Rattle.format.proofs.Below.{below_all}
use Rattle.util.specs.Packed.{bits, Width}
use Rattle.util.proofs.Window.{window, whole, aligned}
use Rattle.util.proofs.packed.one_of_eight.Goals as goal

-- where one of eight fields ends
ends : (j w : ℕ) → Width w → j < 8 → (j * w + w ≤ 8 * w) × (j * w ≤ 512)
ends j w h l =
    let m : j ≤ 8 = omega arith in
    (omega (arith, mul-le-mul_right w l), omega (arith, mul-le-mul {n₂ = 8} {m₂ = 64} m h.1))

pub returns-then-w-eq32 : goal.returns-then-w-eq32
returns-then-w-eq32 c =
    let a = c.args in
    let s = a.s.now in
    let bytes = below_all 256 s (λ k. (c.type_inv.s k).fits) in
    let e : a.w ≡ 32 = c.if-w-eq32.true in
    let q : bits (8 * (a.b + 4 * a.j)) 32 s ≡ bits (8 * a.b + a.j * a.w) a.w s = rw e (ap (λ (y : ℕ). bits y 32 s) (omega arith)) in
    c.half.ensures ∙ sym (whole s (a.b + 4 * a.j) 4 (λ k. (c.type_inv.s k).fits) (omega arith)) ∙ q

pub returns-then-w-eq16 : goal.returns-then-w-eq16
returns-then-w-eq16 c =
    let a = c.args in
    let s = a.s.now in
    let bytes = below_all 256 s (λ k. (c.type_inv.s k).fits) in
    let e : a.w ≡ 16 = c.if-w-eq16.true in
    let q : bits (8 * (a.b + 2 * a.j)) 16 s ≡ bits (8 * a.b + a.j * a.w) a.w s = rw e (ap (λ (y : ℕ). bits y 16 s) (omega arith)) in
    c.quarter.ensures ∙ sym (whole s (a.b + 2 * a.j) 2 (λ k. (c.type_inv.s k).fits) (omega arith)) ∙ q

pub overflow_mul-p : goal.overflow_mul-p
overflow_mul-p c = let p = c.requires in omega (arith, (ends _ _ p.width p.j_bound.0).1)

pub overflow_add-p : goal.overflow_add-p
overflow_add-p c = let p = c.requires in omega (arith, (ends _ _ p.width p.j_bound.0).1)

pub returns-then-p-w-le64 : goal.returns-then-p-w-le64
returns-then-p-w-le64 c =
    let a = c.args in
    let s = a.s.now in
    let bytes = below_all 256 s (λ k. (c.type_inv.s k).fits) in
    let p = a.j * a.w in
    let e : 8 * (a.b + 8) - (8 * a.b + p + a.w) ≡ 64 - (p + a.w) = omega arith in
    c.cut.ensures
    ∙ rw (c.requires.x_value, ← e)
    (sym (window s a.b 8 (8 * a.b + p) a.w bytes (omega arith) (omega arith) (omega arith)))

pub window-i-requires : goal.window-i-requires
window-i-requires c =
    let a = c.args in
    let p = c.requires in
    let h = (ends a.j a.w p.width p.j_bound.0).0 in
    (omega arith, aligned a.w a.j p.width, h)

pub returns : goal.returns
returns c =
    let a = c.args in
    let s = a.s.now in
    let bytes = below_all 256 s (λ k. (c.type_inv.s k).fits) in
    let p = a.j * a.w in
    let i = c.window-i.result in
    let e : 8 * (a.b + i + 8) - (8 * a.b + p + a.w) ≡ 8 * (i + 8) - (p + a.w) = omega arith in
    c.cut-2.ensures
    ∙ rw (c.word.ensures, ← e)
    (sym (window s (a.b + i) 8 (8 * a.b + p) a.w bytes (omega arith) (omega arith) (omega arith)))
