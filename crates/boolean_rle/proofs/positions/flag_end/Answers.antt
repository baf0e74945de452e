-- n flags are whole bytes, and then some bits of one that has to be there: it is if its run is. Assumes nothing.
use mathlib.Core.Path.{◌≡◌, sym, ◌∙◌}
use Prim.Native.Nat.{◌+◌, ◌%◌}
use native.Mathlib.Omega.{arith}
use Rattle.std.proofs.lemmas.Result.{err_from_is_err_and}
use Rattle.format.proofs.Below.{below_all}
use Rattle.boolean_rle.proofs.FirstPass.{here}
use Rattle.boolean_rle.proofs.Ends.{flags-cut, flags-run, flags-missing}
use Rattle.boolean_rle.proofs.positions.flag_end.Goals as goal

pub returns-in_err-end : goal.returns-in_err-end
returns-in_err-end c =
    let s = c.args.input.now in
    let p = err_from_is_err_and c.from_residual.result c.from_residual.ensures.1 in
    rw (p.1, p.2)
    (sym (flags-cut s c.args.from.run.bytes _ _ _ (omega arith) (sym c.byte_end.ensures ∙ c.in_err-end.was)))

pub returns-in_ok-run_at : goal.returns-in_ok-run_at
returns-in_ok-run_at c =
    let s = c.args.input.now in
    let q = c.in_ok-end.end in
    let (d, h) = here s q.run.bytes c.in_ok-run_at.field-0 (λ i. (c.shared_slice_known-1.given i).fits) (sym c.run_at.ensures ∙ c.in_ok-run_at.was) in
    sym (flags-run s c.args.from.run.bytes _ q (sym c.byte_end.ensures ∙ c.in_ok-end.was) _ _
    (omega arith) (omega arith) (below_all 256 s (λ i. (c.shared_slice_known-1.given i).fits)) c.in_ok-run_at.field-0 d h)

pub returns-in_err-run_at : goal.returns-in_err-run_at
returns-in_err-run_at c =
    let bits = (c.args.from.bits % 8 + c.args.n % 8) % 8 in
    let some : bits ≡ 0 → ⊥ = λ e. omega (arith, e) in
    let s = c.args.input.now in
    let p = err_from_is_err_and c.from_residual-in_err-run_at.result c.from_residual-in_err-run_at.ensures.1 in
    rw (p.1, p.2)
    (sym (flags-missing s c.args.from.run.bytes _ _ (sym c.byte_end.ensures ∙ c.in_ok-end.was) _ bits
    (omega arith) (omega arith) (below_all 256 s (λ i. (c.shared_slice_known-1.given i).fits)) _ some
    (sym c.run_at.ensures ∙ c.in_err-run_at.was)))
