use Rattle.format.proofs.Common.{◌≡◌, false, ◌∷◌, map, ◌+◌, ◌-◌, arith, drop, ne_eqb, eq-eqb}
use Rattle.format.specs.Rows.{as_u64}
use Rattle.format.specs.Writing.{steps_of}
use Rattle.writer.proofs.Turns.{test-first, test-stop, test-next, test-end, stepped-next, stepped-end}
use Rattle.writer.proofs.values.are_steps.Goals as goal

pub loop-i-init : goal.loop-i-init
loop-i-init c = test-first _ _ _

pub returns-then-step-value : goal.returns-then-step-value
returns-then-step-value c =
    let step_is : (let rs = map as_u64 c.args.rows.now in
    steps_of false (drop (c.loop-i.i - 1) rs) ≡ c.step.result ∷ steps_of false (drop ((c.loop-i.i - 1) + 1) rs)) = let e : c.loop-i.i - 1 + 1 ≡ c.loop-i.i = omega arith in rw (c.step.ensures, c.pattern_of.ensures, c.pattern_of-in-loop-i.ensures, e)
    (rw e at (stepped-next c.args.rows.now (c.loop-i.i - 1) false (omega arith))) in
    test-stop c.loop-i.invariant (step_is) (ne_eqb _ _ c.if-step-value.true)

pub loop-i-preserved : goal.loop-i-preserved
loop-i-preserved c =
    let step_is : (let rs = map as_u64 c.args.rows.now in
    steps_of false (drop (c.loop-i.i - 1) rs) ≡ c.step.result ∷ steps_of false (drop ((c.loop-i.i - 1) + 1) rs)) = let e : c.loop-i.i - 1 + 1 ≡ c.loop-i.i = omega arith in rw (c.step.ensures, c.pattern_of.ensures, c.pattern_of-in-loop-i.ensures, e)
    (rw e at (stepped-next c.args.rows.now (c.loop-i.i - 1) false (omega arith))) in
    let e : c.loop-i.i + 1 - 1 ≡ c.loop-i.i - 1 + 1 = omega arith in
    rw e (test-next c.loop-i.invariant (omega arith) (step_is) (eq-eqb _ _ c.if-step-value.false))

pub returns : goal.returns
returns c = test-end c.loop-i.invariant (stepped-end c.args.rows.now (c.loop-i.i - 1) false (omega arith))
