use mathlib.Core.Path.{◌∙◌, sym}
use native.Mathlib.Omega.{arith}
use lib.ListN.{drop_of_length-le}
use Rattle.format.proofs.Below.{below_all}
use Rattle.index.proofs.MeasuredRun.{OneRun, run-there, no-run-there}
use Rattle.index.proofs.Walks.{matched-first, matched-short, matched-other, matched-run, matched-end, matched-stop}
use Rattle.index.proofs.walk.right.Goals.{In-Some}
use Rattle.index.proofs.walk.right.Goals as goal

run-here : (c : In-Some) → OneRun c.args.input.now c.loop-place.place c.in-Some.run'
run-here c = run-there (below_all 256 _ (λ i. (c.type_inv.input i).fits)) _ c.measure.ensures (sym c.unwrap_or.ensures ∙ c.in-Some.is)

pub loop-place-init : goal.loop-place-init
loop-place-init c = matched-first _ _ _ _

pub returns-in_default : goal.returns-in_default
returns-in_default c =
    matched-stop c.loop-place.invariant c.loop-place-test.true
    (no-run-there (below_all 256 _ (λ i. (c.type_inv.input i).fits)) _ c.measure.ensures (sym c.unwrap_or.ensures ∙ c.in_default.is))

pub returns-then-first-i : goal.returns-then-first-i
returns-then-first-i c =
    matched-short c.loop-place.invariant (run-here (goal.at.returns-then-first-i c).In-Some) c.if-first-i.true

pub returns-then-not-is_entry : goal.returns-then-not-is_entry
returns-then-not-is_entry c =
    matched-other c.loop-place.invariant (run-here (goal.at.returns-then-not-is_entry c).In-Some) c.if-first-i.false
    c.requires.0 c.requires.1 c.is_entry.ensures c.if-not-is_entry.true

pub overflow_add-place : goal.overflow_add-place
overflow_add-place c = let o = run-here (goal.at.overflow_add-place c).In-Some in omega (arith, o.within)

pub loop-place-smaller : goal.loop-place-smaller
loop-place-smaller c =
    let o = run-here (goal.at.loop-place-smaller c).In-Some in omega (arith, o.within, o.some_bytes)

pub loop-place-preserved : goal.loop-place-preserved
loop-place-preserved c =
    matched-run c.loop-place.invariant (run-here (goal.at.loop-place-preserved c).In-Some) c.if-first-i.false
    c.requires.0 c.requires.1 c.is_entry.ensures c.if-not-is_entry.false c.more-total.ensures

pub returns : goal.returns
returns c =
    matched-end c.loop-place.invariant c.requires.0 c.requires.1 (drop_of_length-le _ c.loop-place-test.false)
