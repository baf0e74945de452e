use Rattle.std.proofs.lemmas.Result.{err_from_is_err_and}
use native.Mathlib.Omega.{arith}
use Rattle.format.proofs.Below.{below_all}
use Rattle.index.proofs.MeasuredRun.{OneRun, step_is}
use Rattle.index.proofs.Walks.{surveyed-first, surveyed-run, surveyed-whole, surveyed-refused}
use Rattle.index.proofs.walk.whole_of.Goals.{In-Some}
use Rattle.index.proofs.walk.whole_of.Goals as goal

run-here : (c : In-Some) → OneRun c.args.input.now c.loop-run.place c.in-Some.run'
run-here c =
    let input = c.args.input.now in
    rw c.in-Some.is at (step_is input c.loop-run.place _ (below_all 256 input (λ i. (c.type_inv.input i).fits)) c.in_ok-run.ensures)

pub loop-run-init : goal.loop-run-init
loop-run-init c = surveyed-first _

pub overflow_add-place : goal.overflow_add-place
overflow_add-place c = let o = run-here (goal.at.overflow_add-place c).In-Some in omega (arith, o.within)

pub overflow_add-runs : goal.overflow_add-runs
overflow_add-runs c =
    let o = run-here (goal.at.overflow_add-runs c).In-Some in
    let w = c.loop-run.invariant in
    omega (arith, w.few, w.within, o.within, o.some_bytes)

pub loop-run-smaller : goal.loop-run-smaller
loop-run-smaller c = let o = run-here (goal.at.loop-run-smaller c).In-Some in omega (arith, o.within, o.some_bytes)

pub loop-run-preserved : goal.loop-run-preserved
loop-run-preserved c = surveyed-run c.loop-run.invariant (run-here (goal.at.loop-run-preserved c).In-Some) c.more-rows.ensures

pub returns : goal.returns
returns c =
    let input = c.args.input.now in
    surveyed-whole c.loop-run.invariant
    (rw c.in_default.is at (step_is input c.loop-run.place _ (below_all 256 input (λ i. (c.type_inv.input i).fits)) c.in_ok-run.ensures))

pub returns-in_err-run : goal.returns-in_err-run
returns-in_err-run c =
    let input = c.args.input.now in
    let p = err_from_is_err_and c.from_residual.result c.from_residual.ensures.1 in
    rw (p.1, p.2) (surveyed-refused c.loop-run.invariant
    (step_is input c.loop-run.place _ (below_all 256 input (λ i. (c.type_inv.input i).fits)) c.in_err-run.ensures))
