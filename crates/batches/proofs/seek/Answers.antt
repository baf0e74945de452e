use Rattle.std.proofs.lemmas.Result.{err_from_is_err_and}
use Rattle.std.specs.Prelude.{Some, None, Ok, Err}
use mathlib.Core.Path.{◌≡◌, refl, subst, ap}
use native.Mathlib.Omega.{arith}
use Rattle.format.specs.Answers.{Answer}
use Rattle.format.proofs.Below.{below_all}
use Rattle.batches.proofs.RunAtByte.{Step, step, Ran}
use Rattle.batches.proofs.SeekWalk.{passed, refused-there, no-such-row}
use Rattle.batches.proofs.seek.Goals.{In-Some}
use Rattle.batches.proofs.seek.Goals as goal

run-here : (c : In-Some) → Ran c.args.input.now c.loop-left.place c.in-Some.run'
run-here c =
    let At : Answer → Type 0 = Step c.args.input.now c.loop-left.place in
    subst (At) (ap Ok c.in-Some.is) (step c.args.input.now c.loop-left.place _ (below_all 256 _ (λ i. (c.type_inv.input i).fits)) c.in_ok-run.ensures)

-- ---- a turn
pub returns-then-left-rows : goal.returns-then-left-rows
returns-then-left-rows c =
    let o = run-here (goal.at.returns-then-left-rows c).In-Some in
    (λ h. record { run = o.run; stands = o.stands; skips = omega (arith, o.rows_are) }, c.loop-left.invariant)

pub overflow_add-place : goal.overflow_add-place
overflow_add-place c =
    let o = run-here (goal.at.overflow_add-place c).In-Some in omega (arith, o.bytes-are, o.stands.within)

pub loop-left-smaller : goal.loop-left-smaller
loop-left-smaller c =
    let o = run-here (goal.at.loop-left-smaller c).In-Some in omega (arith, o.rows_are, o.stands.some)

pub loop-left-preserved : goal.loop-left-preserved
loop-left-preserved c = passed c.loop-left.invariant (run-here (goal.at.loop-left-preserved c).In-Some) (omega arith)

pub returns-in_err-run : goal.returns-in_err-run
returns-in_err-run c =
    let p = err_from_is_err_and c.from_residual.result c.from_residual.ensures.1 in
    let q = step c.args.input.now c.loop-left.place (Err c.in_err-run.field-0.0) (below_all 256 _ (λ i. (c.type_inv.input i).fits)) c.in_err-run.ensures in
    rw (p.1, p.2) (refused-there c.loop-left.invariant q)

pub returns-in_default : goal.returns-in_default
returns-in_default c =
    let At : Answer → Type 0 = Step c.args.input.now c.loop-left.place in
    let z : At (Ok None) = subst (At) (ap Ok c.in_default.is) (step c.args.input.now c.loop-left.place _ (below_all 256 _ (λ i. (c.type_inv.input i).fits)) c.in_ok-run.ensures) in
    rw c.new.ensures (no-such-row c.loop-left.invariant z c.loop-left-test.true)

-- ---- no row is left to skip
pub returns : goal.returns
returns c =
    let e : c.loop-left.left ≡ 0 = omega arith in
    (λ h. absurd (omega arith), rw e at c.loop-left.invariant)

pub loop-left-init : goal.loop-left-init
loop-left-init c = record { same = λ signed n. refl }
