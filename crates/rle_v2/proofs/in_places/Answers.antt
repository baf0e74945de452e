-- The test of the rows is that of the definition. Assumes nothing.
use Rattle.std.specs.Prelude.{None, Ok, Err}
use Rattle.std.proofs.lemmas.Result.{err_from_is_err_and}
use mathlib.Core.Path.{ap, sym, ◌∙◌}
use Rattle.format.specs.Answers.{Answer}
use Rattle.format.proofs.Reading.{placed-8, placed-run, placed-none}
use Rattle.rle_v2.proofs.in_places.Goals as goal

pub returns-in_err-run : goal.returns-in_err-run
returns-in_err-run c =
    let a = c.args in
    let p = err_from_is_err_and c.from_residual.result c.from_residual.ensures.1 in
    λ total m e. rw (p.1, p.2) (placed-none a.at.bytes total a.places.rows m (Err _) tt (sym c.in_err-run.was ∙ e))

pub returns-in_default : goal.returns-in_default
returns-in_default c =
    let a = c.args in
    λ total m e. placed-none a.at.bytes total a.places.rows m (Ok None) tt (sym (c.in_ok-run.was ∙ ap Ok c.in_default.is) ∙ e)

pub returns-then-places-count : goal.returns-then-places-count
returns-then-places-count c =
    let a = c.args in
    λ total m e. rw (ap {B = Answer} Err c.new.ensures) (placed-8 a.at.bytes total a.places.rows m _ (sym (c.in_ok-run.was ∙ ap Ok c.in-Some.is) ∙ e) c.if-places-count.true)

pub returns : goal.returns
returns c =
    let a = c.args in
    λ total m e. placed-run a.at.bytes total a.places.rows m _ (sym (c.in_ok-run.was ∙ ap Ok c.in-Some.is) ∙ e) c.if-places-count.false
