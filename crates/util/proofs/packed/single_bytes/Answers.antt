use Rattle.format.proofs.Common.{◌≡◌, sym, ap, ◌∙◌, ℕ, ◌<◌, arith, length, get_or, to_z-of_z, to_z, of_z, w64, sfits_of}
use Rattle.format.specs.Rows.{as_i64}
use Rattle.format.proofs.Below.{below_all}
use Rattle.format.proofs.Patterns.{as-low}
use Rattle.util.specs.Packed.{bits, field_at}
use Rattle.util.proofs.BigEndian.{one_byte}
use Rattle.util.proofs.Window.{whole, field-there, laid_more}
use Rattle.util.proofs.packed.single_bytes.Goals as goal

pub loop-k-preserved : goal.loop-k-preserved
loop-k-preserved c =
    let a = c.args in
    let s = a.s.now in
    let k = c.loop-k.k in
    let there = c.requires.room.there in
    let h : k < length s = omega (arith, rw c.requires.w_value at (field-there a.w a.n k s c.loop-k-test.true there)) in
    let byte = (c.type_inv.s k).fits in
    let q : get_or s k 0 ≡ field_at a.w k s
    = sym (one_byte s k h) ∙ sym (whole s k 1 (λ i. (c.type_inv.s i).fits) (omega arith)) ∙ rw c.requires.w_value (ap (λ (y : ℕ). bits y 8 s) (omega arith)) in
    let e : to_z w64 (of_z w64 c.from.result) ≡ as_i64 (field_at a.w k s)
    = to_z-of_z {w = w64} (sfits_of c.from.type_inv) ∙ c.from.ensures ∙ sym (as-low (get_or s k 0) (omega arith)) ∙ ap as_i64 q in
    laid_more a.w a.n k _ s a.out.now c.loop-k.out (below_all 256 s (λ i. (c.type_inv.s i).fits)) there (omega arith) (omega arith) e c.loop-k.invariant
