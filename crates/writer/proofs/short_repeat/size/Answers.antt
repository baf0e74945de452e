-- Rows that are the same and fit have a header byte and the value; others have no size. Assumes nothing.
use Rattle.format.proofs.Common.{◌≡◌, ap, ◌∙◌, map, ℕ, ◌*◌, ◌^◌, arith, ltb}
use Rattle.format.specs.Rows.{as_u64}
use Rattle.format.specs.Writing
use Rattle.format.specs.Writing.{first_of}
use Rattle.writer.proofs.Sizes.{none}
use Rattle.writer.proofs.ShortForm.{Short, short-known, unlike, too_large, alike}
use Rattle.writer.proofs.short_repeat.size.Goals as goal

pub returns-then-not-are_same : goal.returns-then-not-are_same
returns-then-not-are_same c =
    let known : Short c.args.rows.now c.args.signed c.args.width = short-known c.args.rows.now c.args.signed c.args.width (omega arith) (omega arith) (omega arith) (omega arith) in
    none _ _ _ _ (unlike (known) _ c.are_same.ensures c.if-not-are_same.true)

pub returns-then-not-fits : goal.returns-then-not-fits
returns-then-not-fits c =
    let known : Short c.args.rows.now c.args.signed c.args.width = short-known c.args.rows.now c.args.signed c.args.width (omega arith) (omega arith) (omega arith) (omega arith) in
    let small_is : c.fits.result ≡ ltb (first_of c.args.signed (map as_u64 c.args.rows.now)) (2 ^ (8 * c.args.width)) = c.fits.ensures
    ∙ ap (λ (x : ℕ). ltb x (2 ^ (8 * c.args.width)))
    (c.stored-value.ensures ∙ ap (λ (x : ℕ). Writing.stored c.args.signed x)
    c.pattern_of.ensures) in
    none _ _ _ _ (too_large (known) _ c.are_same.ensures c.if-not-are_same.false _ (small_is) c.if-not-fits.true)

pub returns : goal.returns
returns c =
    let known : Short c.args.rows.now c.args.signed c.args.width = short-known c.args.rows.now c.args.signed c.args.width (omega arith) (omega arith) (omega arith) (omega arith) in
    let small_is : c.fits.result ≡ ltb (first_of c.args.signed (map as_u64 c.args.rows.now)) (2 ^ (8 * c.args.width)) = c.fits.ensures
    ∙ ap (λ (x : ℕ). ltb x (2 ^ (8 * c.args.width)))
    (c.stored-value.ensures ∙ ap (λ (x : ℕ). Writing.stored c.args.signed x)
    c.pattern_of.ensures) in
    (alike (known) _ c.are_same.ensures c.if-not-are_same.false _ (small_is) c.if-not-fits.false (omega arith), omega arith)
