use Rattle.format.proofs.Common.{◌≡◌, sym, ap, ◌∙◌, ◌+◌, ◌-◌, ◌*◌, arith, length, to_z-of_z, to_z, of_z, w64, sfits_of}
use Rattle.format.specs.Rows.{as_i64}
use Rattle.format.proofs.Below.{below_all}
use Rattle.util.specs.Packed.{field_at}
use Rattle.util.proofs.Window.{window, field-there, laid_more}
use Rattle.util.proofs.packed.few.Goals as goal

pub loop-k-preserved : goal.loop-k-preserved
loop-k-preserved c =
    let l = c.loop-k in
    let a = c.args in
    let s = a.s.now in
    let d = below_all 256 s (λ i. (c.type_inv.s i).fits) in
    let there = c.requires.n_nonzero.2.there in
    let h = field-there a.w a.n l.k s c.loop-k-test.true there in
    let q : 8 * (0 + length s) - (l.k * a.w + a.w) ≡ l.low - a.w = omega arith in
    let f : c.cut.result ≡ field_at a.w l.k s
    = c.cut.ensures ∙ rw (c.bytes-x.ensures, ← q)
    (sym (window s 0 (length s) (l.k * a.w) a.w d (omega arith) (omega arith) (omega arith))) in
    let e : to_z w64 (of_z w64 c.to_i64.result) ≡ as_i64 (field_at a.w l.k s) = to_z-of_z {w = w64} (sfits_of c.to_i64.type_inv) ∙ c.to_i64.ensures ∙ ap as_i64 f in
    (omega arith, laid_more a.w a.n l.k _ s a.out.now l.out d there (omega arith) (omega arith) e l.invariant.1)
