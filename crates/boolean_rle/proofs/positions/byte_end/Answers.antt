use mathlib.Core.Path.{◌≡◌, refl, sym, ◌∙◌}
use mathlib.Core.List.{List}
use Prim.Native.Nat.{ℕ, ◌+◌}
use native.Mathlib.Omega.{arith}
use Rattle.std.proofs.lemmas.Result.{err_from_is_err_and}
use Rattle.format.specs.Booleans.{ByteRun}
use Rattle.format.proofs.Below.{below_all}
use Rattle.boolean_rle.specs.declared.ByteRun as code
use Rattle.boolean_rle.proofs.FirstPass.{Here, here}
use Rattle.boolean_rle.proofs.Ends.{both-less, end_none, end-inside, end-run, end-cut}
use Rattle.boolean_rle.proofs.positions.byte_end.Goals as goal

pub returns-then-rest-unused : goal.returns-then-rest-unused
returns-then-rest-unused c =
    let bytes-in : List ℕ = c.args.input.now in
    let to-pass : ℕ = c.loop-n.left + c.loop-n.rest in
    let run : code.ByteRun = c.in_ok-run.run' in
    let run-here : (d : ByteRun) × Here (bytes-in) c.loop-n.place (run) d = here (bytes-in) c.loop-n.place (run) (λ i. (c.shared_slice_known-1.given i).fits)
    (sym c.run_at.ensures ∙ c.in_ok-run.was) in
    let (d, h) = run-here in
    sym (c.loop-n.invariant ∙ end-inside (bytes-in) c.loop-n.place _ d h (to-pass)
    (omega (arith, c.saturating_sub-unused.ensures)))

pub loop-n-preserved : goal.loop-n-preserved
loop-n-preserved c =
    let bytes-in : List ℕ = c.args.input.now in
    let to-pass : ℕ = c.loop-n.left + c.loop-n.rest in
    let run : code.ByteRun = c.in_ok-run.run' in
    let run-here : (d : ByteRun) × Here (bytes-in) c.loop-n.place (run) d = here (bytes-in) c.loop-n.place (run) (λ i. (c.shared_slice_known-1.given i).fits)
    (sym c.run_at.ensures ∙ c.in_ok-run.was) in
    let unused = c.saturating_sub-unused in
    let (d, h) = run-here in
    let both =
    both-less c.loop-n.left c.loop-n.rest run.count unused.result unused.ensures c.if-rest-unused.false in
    c.loop-n.invariant
    ∙ end-run (bytes-in) c.loop-n.place (run) d h (to-pass) (omega (arith, unused.ensures))
    ∙ rw (both, c.saturating_sub-left.ensures)

pub returns-in_err-run : goal.returns-in_err-run
returns-in_err-run c =
    let bytes-in : List ℕ = c.args.input.now in
    let to-pass : ℕ = c.loop-n.left + c.loop-n.rest in
    let p = err_from_is_err_and c.from_residual.result c.from_residual.ensures.1 in
    rw (p.1, p.2) (sym (c.loop-n.invariant ∙ end-cut (bytes-in) c.loop-n.place (to-pass) _
    (omega (arith, c.max.ensures)) (sym c.run_at.ensures ∙ c.in_err-run.was)))

pub returns : goal.returns
returns c =
    let bytes-in : List ℕ = c.args.input.now in
    let to-pass : ℕ = c.loop-n.left + c.loop-n.rest in
    let s = bytes-in in
    let none_left : to-pass ≡ 0 = omega (arith, c.max.ensures) in
    sym (c.loop-n.invariant
    ∙ rw none_left (end_none s c.loop-n.place (below_all 256 s (λ i. (c.shared_slice_known-1.given i).fits))))

pub loop-n-init : goal.loop-n-init
loop-n-init c = refl

pub overflow_add-result : goal.overflow_add-result
overflow_add-result c =
    let bytes-in : List ℕ = c.args.input.now in
    let run : code.ByteRun = c.in_ok-run.run' in
    let run-here : (d : ByteRun) × Here (bytes-in) c.loop-n.place (run) d = here (bytes-in) c.loop-n.place (run) (λ i. (c.shared_slice_known-1.given i).fits)
    (sym c.run_at.ensures ∙ c.in_ok-run.was) in
    omega (arith, c.saturating_sub-unused.ensures, run-here.1.few)

pub overflow_add-place : goal.overflow_add-place
overflow_add-place c =
    let bytes-in : List ℕ = c.args.input.now in
    let run : code.ByteRun = c.in_ok-run.run' in
    let run-here : (d : ByteRun) × Here (bytes-in) c.loop-n.place (run) d = here (bytes-in) c.loop-n.place (run) (λ i. (c.shared_slice_known-1.given i).fits)
    (sym c.run_at.ensures ∙ c.in_ok-run.was) in
    omega (arith, run-here.1.inside)

pub loop-n-smaller : goal.loop-n-smaller
loop-n-smaller c =
    let bytes-in : List ℕ = c.args.input.now in
    let run : code.ByteRun = c.in_ok-run.run' in
    let run-here : (d : ByteRun) × Here (bytes-in) c.loop-n.place (run) d = here (bytes-in) c.loop-n.place (run) (λ i. (c.shared_slice_known-1.given i).fits)
    (sym c.run_at.ensures ∙ c.in_ok-run.was) in
    let h = run-here.1 in omega (arith, h.inside, h.takes)
