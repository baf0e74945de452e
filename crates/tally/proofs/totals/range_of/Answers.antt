use Rattle.std.proofs.Common.{rules, ◌≡◌, List, [], ◌∷◌, length, get_or, ℤ, pos, refl, arith, w64, SFits, to_z}
use borrow.Author.Rules.{sfits_of}
use Rattle.tally.specs.Totals.{lower, higher, of_all}
use Rattle.tally.proofs.Order.{taken-row, lowers, highers, least-lower, most-higher, next-row}
use Rattle.tally.proofs.totals.range_of.Goals as goal

empty-list : (rows : List ℤ) → length rows ≡ 0 → rows ≡ []
empty-list [] e = refl
empty-list (z ∷ rows) e = absurd (omega arith)

pub returns-in_default : goal.returns-in_default
unfolding of_all
returns-in_default c =
    let e = empty-list c.args.rows.now c.in_default.ensures.cases in
    (rw e, rw e)

pub loop-row-init : goal.loop-row-init
unfolding of_all
loop-row-init c =
    let z : ℤ = c.in-Some.first.now in
    let f : SFits w64 z = search rules in
    rw (c.in-Some.ensures.cases.0, taken-row z f) (record { lowest = refl; highest = refl })

pub loop-row-preserved : goal.loop-row-preserved
loop-row-preserved c =
    let l = c.loop-row in
    let e = c.in-Some.ensures.cases.0 in
    let more = c.in-Some.more.now in
    let z : ℤ = get_or more l.row-index (pos 0) in
    let f : SFits w64 z = search rules in
    let low : c.min-smallest.result ≡ lower (to_z w64 l.smallest-bits) z = rw (c.min-smallest.ensures.value, least-lower, taken-row z f) in
    let high : c.max-largest.result ≡ higher (to_z w64 l.largest-bits) z = rw (c.max-largest.ensures.value, most-higher, taken-row z f) in
    rw (taken-row c.min-smallest.result (sfits_of c.min-smallest.type_inv), taken-row c.max-largest.result (sfits_of c.max-largest.type_inv), low, high, e)
    (record {
      lowest = next-row _ lower lowers _ more l.row-index _ (omega arith) (rw e at l.invariant.lowest);
      highest = next-row _ higher highers _ more l.row-index _ (omega arith) (rw e at l.invariant.highest);
    })
