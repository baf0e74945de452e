use mathlib.Core.Path.{◌≡◌, sym, ◌∙◌}
use native.Mathlib.Nat.{le_refl, add-zero}
use native.Mathlib.Omega.{arith}
use lib.ListN.{length, drop, length-drop}
use Rattle.std.proofs.lemmas.Result.{err_from_is_err_and}
use Rattle.format.specs.Booleans.{ByteRun, joined_runs, booleans}
use Rattle.format.proofs.ByteRuns.{runs_none}
use Rattle.boolean_rle.proofs.FirstPass.{Here, here, ceil-is, further-zero, span-cut, pass}
use Rattle.boolean_rle.proofs.span_from.Goals as goal

pub loop-left-init : goal.loop-left-init
unfolding booleans
loop-left-init c =
    let a = c.args in (
      le_refl _,
      (
        length (drop a.at a.input.now),
        omega (arith, length-drop a.at a.input.now),
        rw (c.div_ceil-left.ensures, ceil-is a.n) (further-zero a.at _),
      ),
    )

pub loop-left-smaller : goal.loop-left-smaller
loop-left-smaller c =
    let run-here : (d : ByteRun) × Here c.args.input.now c.loop-left.end c.in_ok-run.run' d = here c.args.input.now c.loop-left.end c.in_ok-run.run' (λ i. (c.shared_slice_known-1.given i).fits)
    (sym c.run_at.ensures ∙ c.in_ok-run.was) in
    omega (arith, run-here.1.some)

pub loop-left-preserved : goal.loop-left-preserved
loop-left-preserved c =
    let run-here : (d : ByteRun) × Here c.args.input.now c.loop-left.end c.in_ok-run.run' d = here c.args.input.now c.loop-left.end c.in_ok-run.run' (λ i. (c.shared_slice_known-1.given i).fits)
    (sym c.run_at.ensures ∙ c.in_ok-run.was) in
    let h = run-here in
    rw c.saturating_sub-left.ensures
    (pass c.args.input.now _ _ c.loop-left.end c.loop-left.left _ h.0 h.1 (omega arith) c.loop-left.invariant)

pub returns-in_err-run : goal.returns-in_err-run
returns-in_err-run c =
    let l = c.loop-left in
    let i = l.invariant.1 in
    let s = c.args.input.now in
    let p = err_from_is_err_and c.from_residual.result c.from_residual.ensures.1 in
    rw (p.1, p.2) (sym (i.2 ∙ rw (span-cut (length s) i.0 l.left (drop l.end s) _ c.loop-left-test.true (rw length-drop i.1) (sym c.run_at.ensures ∙ c.in_err-run.was))))

pub returns : goal.returns
unfolding joined_runs
returns c =
    let l = c.loop-left in
    let i = l.invariant.1 in
    let z : l.left ≡ 0 = omega arith in
    sym (i.2 ∙ rw (z, runs_none, add-zero))

pub overflow_add-end : goal.overflow_add-end
overflow_add-end c =
    let run-here : (d : ByteRun) × Here c.args.input.now c.loop-left.end c.in_ok-run.run' d = here c.args.input.now c.loop-left.end c.in_ok-run.run' (λ i. (c.shared_slice_known-1.given i).fits)
    (sym c.run_at.ensures ∙ c.in_ok-run.was) in
    omega (arith, run-here.1.inside)
