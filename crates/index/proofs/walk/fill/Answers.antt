use mathlib.Core.Path.{◌∙◌, sym}
use native.Mathlib.Omega.{arith}
use Rattle.format.proofs.Below.{below_all}
use Rattle.index.proofs.MeasuredRun.{OneRun, run-there, no-run-there}
use Rattle.index.proofs.Fills.{Filling, Room, filling-first, has_room, filling-run, filling-over}
use Rattle.index.proofs.walk.fill.Goals.{In-Some}
use Rattle.index.proofs.walk.fill.Goals as goal

run-here : (c : In-Some) → OneRun c.args.input.now c.loop-run.place c.in-Some.run'
run-here c = run-there (below_all 256 _ (λ i. (c.type_inv.input i).fits)) _ c.measure.ensures (sym c.unwrap_or.ensures ∙ c.in-Some.is)

roomy : (c : In-Some) → Room c.loop-run.invariant (run-here c)
roomy c = has_room c.loop-run.invariant (run-here c)

pub loop-run-init : goal.loop-run-init
loop-run-init c = filling-first c.requires

pub offset_bounds-first-i : goal.offset_bounds-first-i
offset_bounds-first-i c = let y = roomy (goal.at.offset_bounds-first-i c).In-Some in omega (arith, y.in-first₀)

pub bounds-first-i : goal.bounds-first-i
bounds-first-i c = let y = roomy (goal.at.bounds-first-i c).In-Some in y.in-first

pub offset_bounds-at-i : goal.offset_bounds-at-i
offset_bounds-at-i c = let y = roomy (goal.at.offset_bounds-at-i c).In-Some in omega (arith, y.in-at₀)

pub bounds-at-i : goal.bounds-at-i
bounds-at-i c = let y = roomy (goal.at.bounds-at-i c).In-Some in y.in-at

pub offset_bounds-counts-i : goal.offset_bounds-counts-i
offset_bounds-counts-i c = let y = roomy (goal.at.offset_bounds-counts-i c).In-Some in omega (arith, y.in-counts₀)

pub bounds-counts-i : goal.bounds-counts-i
bounds-counts-i c = let y = roomy (goal.at.bounds-counts-i c).In-Some in y.in-counts

pub overflow_add-row : goal.overflow_add-row
overflow_add-row c = let y = roomy (goal.at.overflow_add-row c).In-Some in omega (arith, y.rows-small)

pub overflow_add-place : goal.overflow_add-place
overflow_add-place c = let o = run-here (goal.at.overflow_add-place c).In-Some in omega (arith, o.within)

pub overflow_add-i : goal.overflow_add-i
overflow_add-i c = let y = roomy (goal.at.overflow_add-i c).In-Some in omega (arith, y.in-first₀)

pub loop-run-smaller : goal.loop-run-smaller
loop-run-smaller c = let o = run-here (goal.at.loop-run-smaller c).In-Some in omega (arith, o.within, o.some_bytes)

pub loop-run-preserved : goal.loop-run-preserved
loop-run-preserved c = filling-run c.loop-run.invariant (run-here (goal.at.loop-run-preserved c).In-Some)

pub returns : goal.returns
returns c =
    filling-over c.loop-run.invariant
    (no-run-there (below_all 256 _ (λ i. (c.type_inv.input i).fits)) _ c.measure.ensures (sym c.unwrap_or.ensures ∙ c.in_default.is))
