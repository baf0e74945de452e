-- The check's answer says which: the proposal's runs are written, or the direct runs if they have room, or nothing. Assumes nothing.
use mathlib.Core.Path.{◌≡◌, refl, sym, ◌∙◌}
use mathlib.Core.Bool.{true}
use lib.ListN.{length}
use lib.Dec.{leb}
use borrow.Author.Tests.{leb-true}
use Rattle.format.specs.Runs.{joined}
use Rattle.planner.specs.Check.{proposal, wide}
use Rattle.planner.proofs.Columns.{was-accepted, wide_test, wrote-planned, wrote-direct, wrote-eight}
use Rattle.std.specs.Prelude.{Option, Some, None}
use Rattle.planner.proofs.write_column.Goals as goal

-- an answer that is not Some is None
rejected : {A : Type 0} {r s : Option A} → r ≡ s → ((t : A) → r ≡ Some t → ⊥) → None ≡ s
rejected {r = None} e n = e
rejected {r = Some t} e n = absurd (n t refl)

pub planned-requires : goal.planned-requires
planned-requires c =
    let a = c.args in
    (was-accepted a.signed a.rows.now (proposal a.first.now a.counts.now a.forms.now a.widths.now
    a.bases.now) (length a.out.now) c.in-Some.t (sym c.in-Some.is ∙ c.check-c.ensures)).0

pub returns-then-not-wide_fits : goal.returns-then-not-wide_fits
returns-then-not-wide_fits c =
    let a = c.args in
    rw c.new.ensures
    (wrote-eight a.signed a.rows.now (proposal a.first.now a.counts.now a.forms.now a.widths.now
    a.bases.now) a.out.now a.out.now (rejected c.check-c.ensures c.in_default.not-Some)
    (sym (wide_test a.signed a.rows.now (proposal a.first.now a.counts.now a.forms.now a.widths.now
    a.bases.now) (length a.out.now) _ c.wide_fits.ensures) ∙ c.if-not-wide_fits.true) refl)

pub returns-in-Some : goal.returns-in-Some
returns-in-Some c =
    let a = c.args in
    wrote-planned a.signed a.rows.now (proposal a.first.now a.counts.now a.forms.now a.widths.now
    a.bases.now) a.out.now _ c.in-Some.t (sym c.in-Some.is ∙ c.check-c.ensures) c.planned.ensures

pub returns : goal.returns
returns c =
    let fits : (let a = c.args in leb (length (joined (wide a.signed a.rows.now))) (length a.out.now) ≡ true) = let a = c.args in
    sym (wide_test a.signed a.rows.now
    (proposal a.first.now a.counts.now a.forms.now a.widths.now a.bases.now) (length a.out.now) _
    c.wide_fits.ensures) ∙ c.if-not-wide_fits.false in
    let a = c.args in
    wrote-direct a.signed a.rows.now (proposal a.first.now a.counts.now a.forms.now a.widths.now
    a.bases.now) a.out.now _ (rejected c.check-c.ensures c.in_default.not-Some) (fits) _ c.wide.ensures

pub wide-requires : goal.wide-requires
wide-requires c =
    let fits : (let a = c.args in leb (length (joined (wide a.signed a.rows.now))) (length a.out.now) ≡ true) = let a = c.args in
    sym (wide_test a.signed a.rows.now
    (proposal a.first.now a.counts.now a.forms.now a.widths.now a.bases.now) (length a.out.now) _
    c.wide_fits.ensures) ∙ c.if-not-wide_fits.false in
    leb-true _ _ (fits)
