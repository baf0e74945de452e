use Rattle.std.specs.Prelude.{Some, None, Ok, Err}
use Rattle.std.specs.Result.{result_unwrap_or}
use mathlib.Core.Path.{◌≡◌, refl, sym, ap, ◌∙◌}
use mathlib.Core.List.{List, []}
use Prim.Native.Nat.{ℕ}
use native.Mathlib.Omega.{arith}
use Rattle.format.specs.Streams.{runs_of, stream}
use Rattle.format.specs.Answers.{Answer}
use Rattle.format.specs.declared.Run.{Run}
use Rattle.format.proofs.Below.{below_all}
use Rattle.format.proofs.Tests.{never}
use Rattle.batches.proofs.RunAtByte.{Step, step, Ran}
use Rattle.rescue.specs.RescueSteps.{plain_in}
use lib.ListN.{drop}
use Rattle.rescue.proofs.PlainPositions.{plain-none, plain_in_lem, plain-passed, plain_still}
use Rattle.rescue.proofs.group.make_plain.Goals.{In-Some}
use Rattle.rescue.proofs.group.make_plain.Goals as goal

-- a measure of which a refusal is taken for the end
run-there : (s : List ℕ) (p : ℕ) (a : Answer) {r : Run} → Step s p a → result_unwrap_or a None ≡ Some r → Ran s p r
run-there s p (Ok m) t e = rw e at t
run-there s p (Err f) t e = never (cc)

no-runs-there : (s : List ℕ) (p : ℕ) (a : Answer) → Step s p a → result_unwrap_or a None ≡ None → runs_of (stream (drop p s)) ≡ []
no-runs-there s p (Ok m) t e = let z : Step s p (Ok None) = rw e at t in ap runs_of z
no-runs-there s p (Err f) t e = ap runs_of t.read

run-here : (c : In-Some) → Ran c.args.input.now c.loop-left.place c.in-Some.run'
run-here c =
    let s = c.args.input.now in
    run-there s c.loop-left.place _ (step s c.loop-left.place _ (below_all 256 s (λ i. (c.type_inv.input i).fits)) c.measure.ensures)
    (sym c.unwrap_or.ensures ∙ c.in-Some.is)

-- ---- a turn
pub returns-then-left-rows : goal.returns-then-left-rows
returns-then-left-rows c =
    let l = c.loop-left in
    let o = run-here (goal.at.returns-then-left-rows c).In-Some in
    rw c.row_position.ensures
    (sym (ap plain_in (l.invariant ∙ plain_in_lem _ l.place l.left o.run o.stands (omega (arith, o.rows_are)))))

pub overflow_add-place : goal.overflow_add-place
overflow_add-place c =
    let o = run-here (goal.at.overflow_add-place c).In-Some in omega (arith, o.bytes-are, o.stands.within)

pub loop-left-smaller : goal.loop-left-smaller
loop-left-smaller c =
    let o = run-here (goal.at.loop-left-smaller c).In-Some in omega (arith, o.rows_are, o.stands.some)

pub loop-left-preserved : goal.loop-left-preserved
loop-left-preserved c =
    let l = c.loop-left in
    l.invariant ∙ plain-passed _ l.place l.left _ (run-here (goal.at.loop-left-preserved c).In-Some) (omega arith)

pub returns-in_default : goal.returns-in_default
returns-in_default c =
    let s = c.args.input.now in
    let l = c.loop-left in
    let t = step s l.place _ (below_all 256 s (λ i. (c.type_inv.input i).fits)) c.measure.ensures in
    sym (ap plain_in (l.invariant ∙ plain-none _ l.place l.left (no-runs-there s l.place _ t (sym c.unwrap_or.ensures ∙ c.in_default.is)) (omega arith)))

-- ---- no row is left to skip
pub returns : goal.returns
returns c =
    let l = c.loop-left in
    let s = c.args.input.now in
    let z : l.left ≡ 0 = omega arith in
    let bytes = below_all 256 s (λ i. (c.type_inv.input i).fits) in
    rw c.row_position-2.ensures (sym (ap plain_in (rw z at l.invariant ∙ plain_still s l.place bytes)))

pub loop-left-init : goal.loop-left-init
loop-left-init c = refl
