-- What looking up answered, how many rows are left, and the rows laid. Assumes nothing.
use mathlib.Core.Path.{sym, ◌∙◌}
use native.Mathlib.Omega.{arith}
use Rattle.std.proofs.lemmas.Result.{err_from_is_err_and}
use Rattle.format.proofs.Below.{below_all}
use Rattle.index.proofs.Looked.{Through, entry-found, not-found}
use Rattle.index.proofs.Previews.{left-many, left-rows, some, n-long, last-is, row_below, ready, eight-so, rows-so}
use Rattle.index.proofs.read_from.Goals.{In_ok-entry}
use Rattle.index.proofs.read_from.Goals as goal

entry-here : (c : In_ok-entry) → (let a = c.args in let e = c.in_ok-entry.entry in
    Through a.input.now a.first.now a.at.now a.counts.now a.row.rows e.first.rows e.at.bytes)
entry-here c = entry-found (below_all 256 _ (λ i. (c.type_inv.input i).fits)) c.look_up.ensures c.in_ok-entry.was

pub returns-in_err-entry : goal.returns-in_err-entry
returns-in_err-entry c =
    let a = c.args in
    let p = err_from_is_err_and c.from_residual.result c.from_residual.ensures.1 in
    rw (p.1, p.2) (not-found (below_all 256 a.input.now (λ i. (c.type_inv.input i).fits)) c.look_up.ensures c.in_err-entry.was a.signed a.out.now)

-- there is a last entry
pub overflow_sub-last : goal.overflow_sub-last
overflow_sub-last c =
    let a = c.args in
    let t = entry-here (goal.at.overflow_sub-last c).In_ok-entry in
    some _ _ _ _ _ _ _ t

pub bounds-first-last : goal.bounds-first-last
bounds-first-last c =
    let a = c.args in
    let t = entry-here (goal.at.bounds-first-last c).In_ok-entry in
    omega (arith, some _ _ _ _ _ _ _ t)

pub bounds-counts-last : goal.bounds-counts-last
bounds-counts-last c =
    let a = c.args in
    let t = entry-here (goal.at.bounds-counts-last c).In_ok-entry in
    omega (arith, some _ _ _ _ _ _ _ t, n-long _ _ _ _ _ _ _ t)

pub left_from-requires : goal.left_from-requires
left_from-requires c =
    let a = c.args in
    let t = entry-here (goal.at.left_from-requires c).In_ok-entry in
    row_below _ _ _ _ _ _ _ t

-- the rows are more than the places
pub returns-in_default : goal.returns-in_default
returns-in_default c =
    let a = c.args in
    let t = entry-here (goal.at.returns-in_default c).In_ok-entry in
    let k = left-many _ _ a.row.rows _ (sym c.in_default.is ∙ c.left_from.ensures) in
    rw c.refused.ensures (eight-so _ _ _ _ _ _ _ t a.signed a.out.now (omega (arith, k, last-is _ _ _ _ _ _ _ t)))

-- or there is room for them
pub overflow_sub-skip : goal.overflow_sub-skip
overflow_sub-skip c =
    let a = c.args in
    let t = entry-here (goal.at.overflow_sub-skip c).In_ok-entry in
    t.from

pub lay-requires : goal.lay-requires
lay-requires c =
    let a = c.args in
    let t = entry-here (goal.at.lay-requires c).In_ok-entry in
    let k = left-rows _ _ a.row.rows _ c.in-Some.left.rows (sym c.in-Some.is ∙ c.left_from.ensures) in
    ready _ _ _ _ _ _ _ t _ (omega (arith, k, last-is _ _ _ _ _ _ _ t))

pub returns : goal.returns
returns c =
    let a = c.args in
    let t = entry-here (goal.at.returns c).In_ok-entry in
    let (k, q) = left-rows _ _ a.row.rows _ c.in-Some.left.rows (sym c.in-Some.is ∙ c.left_from.ensures) in
    rows-so _ _ _ _ _ _ _ t a.signed a.out.now _ (omega (arith, k, last-is _ _ _ _ _ _ _ t)) q _ c.lay.ensures
