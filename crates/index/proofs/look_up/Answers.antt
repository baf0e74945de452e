-- Each test of the columns, in the order of the refusals. Assumes nothing.
use mathlib.Core.Path.{sym, ◌∙◌}
use Rattle.index.proofs.LookUps.{unequal, wrong-so, holder-so}
use Rattle.index.proofs.look_up.Goals as goal

pub returns-then-at-places : goal.returns-then-at-places
returns-then-at-places c =
    let a = c.args in
    rw c.refused.ensures (unequal a.input.now a.first.now a.at.now a.counts.now a.row.rows c.then-at-places.either)

pub returns-then-not-right : goal.returns-then-not-right
returns-then-not-right c =
    let a = c.args in
    rw c.refused-then-not-right.ensures
    (wrong-so a.input.now a.first.now a.at.now a.counts.now a.row.rows c.if-at-places.false c.if-counts-places.false (sym c.right.ensures ∙ c.if-not-right.true))

pub returns : goal.returns
returns c =
    let a = c.args in
    c.holder.ensures
    ∙ holder-so a.input.now a.first.now a.at.now a.counts.now a.row.rows c.if-at-places.false c.if-counts-places.false (sym c.right.ensures ∙ c.if-not-right.false)
