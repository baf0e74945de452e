-- What the walk found is answered, and the columns are filled where there is room for all of it. Assumes nothing.
use Rattle.std.proofs.lemmas.Result.{err_from_is_err_and}
use Rattle.format.proofs.Below.{below_all}
use Rattle.index.proofs.Builds.{Found, what-found, unequal, own-so, past-so, few-so, roomy-so, built-so}
use Rattle.index.proofs.build.Goals.{After-whole_of}
use Rattle.index.proofs.build.Goals as goal

found-here : (c : After-whole_of) → Found c.args.input.now c.whole_of.result
found-here c = what-found c.args.input.now _ (below_all 256 _ (λ i. (c.type_inv.input i).fits)) c.whole_of.ensures

pub returns-then-at-places : goal.returns-then-at-places
returns-then-at-places c =
    let a = c.args in
    rw c.refused.ensures (unequal a.input.now a.first.now a.at.now a.counts.now c.then-at-places.either)

-- the walk met a refusal
pub returns-in_err-found : goal.returns-in_err-found
returns-in_err-found c =
    let a = c.args in
    let found = found-here (goal.at.returns-in_err-found c).After-whole_of in
    let p = err_from_is_err_and c.from_residual.result c.from_residual.ensures.1 in
    rw (p.1, p.2) (own-so a.input.now a.first.now a.at.now a.counts.now c.if-at-places.false c.if-counts-places.false _ (rw c.in_err-found.was at found))

pub returns-in_default : goal.returns-in_default
returns-in_default c =
    let a = c.args in
    let found = found-here (goal.at.returns-in_default c).After-whole_of in
    rw c.refused-in_default.ensures
    (past-so a.input.now a.first.now a.at.now a.counts.now c.if-at-places.false c.if-counts-places.false _ _ (rw c.in_ok-found.was at found) c.in_default.is)

pub returns-then-places-found : goal.returns-then-places-found
returns-then-places-found c =
    let a = c.args in
    let found = found-here (goal.at.returns-then-places-found c).After-whole_of in
    rw c.refused-then-places-found.ensures
    (few-so a.input.now a.first.now a.at.now a.counts.now c.if-at-places.false c.if-counts-places.false _ _ (rw c.in_ok-found.was at found) c.if-places-found.true)

pub fill-requires : goal.fill-requires
fill-requires c =
    let a = c.args in
    let found = found-here (goal.at.fill-requires c).After-whole_of in
    roomy-so a.input.now a.first.now a.at.now a.counts.now c.if-at-places.false c.if-counts-places.false _ _ (rw c.in_ok-found.was at found) _ c.in-Some.is c.if-places-found.false

pub returns : goal.returns
returns c =
    let a = c.args in
    let found = found-here (goal.at.returns c).After-whole_of in
    built-so a.input.now a.first.now a.at.now a.counts.now c.if-at-places.false c.if-counts-places.false _ _ (rw c.in_ok-found.was at found) _ c.in-Some.is c.if-places-found.false _ _ _ c.fill.ensures
