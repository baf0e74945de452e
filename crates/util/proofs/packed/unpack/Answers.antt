use Rattle.format.proofs.Common.{◌≡◌, ap, ◌∙◌, ◌<◌, arith, length, to_z-of_z, to_z, of_z, w64, sfits_of}
use Rattle.format.specs.Rows.{as_i64}
use Rattle.format.proofs.Below.{below_all}
use Rattle.util.specs.Packed.{field_at}
use Rattle.util.proofs.Window.{laid_more, laid-all}
use Rattle.util.proofs.packed.unpack.Goals as goal

pub returns-then-s-lt8 : goal.returns-then-s-lt8
returns-then-s-lt8 c = laid-all _ _ _ _ _ c.few.ensures

pub loop-k-preserved : goal.loop-k-preserved
loop-k-preserved c =
    let l = c.loop-k in
    let a = c.args in
    let s = a.s.now in
    let e : to_z w64 (of_z w64 c.to_i64.result) ≡ as_i64 (field_at a.w l.k s)
    = to_z-of_z {w = w64} (sfits_of c.to_i64.type_inv) ∙ c.to_i64.ensures ∙ ap as_i64 c.field.ensures in
    let b = below_all 256 s (λ i. (c.type_inv.s i).fits) in
    let r : l.k < length l.out = omega arith in
    λ n o h g t. laid_more a.w n l.k _ s o l.out b g (omega arith) r e (l.invariant n o (omega arith) g t)

pub returns : goal.returns
returns c =
    let l = c.loop-k in
    let a = c.args in
    let e : l.k ≡ a.n = omega (arith, c.eights_at-laid.ensures.few) in
    laid-all _ _ _ _ _ (rw e at (l.invariant a.n a.out.now (omega arith) c.requires.n_bound.2 c.eights_at-laid.ensures))
