use Rattle.format.proofs.Common.{◌≡◌, sym, ◌∙◌, ◌∷◌, map, ◌+◌, ◌-◌, arith, drop}
use Rattle.format.specs.Rows.{as_u64}
use Rattle.format.specs.Writing.{steps_of}
use Rattle.writer.proofs.Turns.{test-first, test-stop, test-next, test-end, stepped-next, stepped-end}
use Rattle.writer.proofs.values.all_steps_fit.Goals as goal

pub loop-i-init : goal.loop-i-init
loop-i-init c = test-first _ _ _

pub returns-then-not-fits : goal.returns-then-not-fits
returns-then-not-fits c =
    let step_is : (let a = c.args in
    let rs = map as_u64 a.rows.now in
    steps_of a.falling (drop (c.loop-i.i - 1) rs) ≡ c.step-x.result ∷ steps_of a.falling (drop ((c.loop-i.i - 1) + 1) rs)) = let e : c.loop-i.i - 1 + 1 ≡ c.loop-i.i = omega arith in rw (c.step-x.ensures, c.pattern_of.ensures, c.pattern_of-in-loop-i.ensures, e)
    (rw e at (stepped-next c.args.rows.now (c.loop-i.i - 1) c.args.falling (omega arith))) in
    test-stop c.loop-i.invariant (step_is) (sym c.fits.ensures ∙ c.if-not-fits.true)

pub loop-i-preserved : goal.loop-i-preserved
loop-i-preserved c =
    let step_is : (let a = c.args in
    let rs = map as_u64 a.rows.now in
    steps_of a.falling (drop (c.loop-i.i - 1) rs) ≡ c.step-x.result ∷ steps_of a.falling (drop ((c.loop-i.i - 1) + 1) rs)) = let e : c.loop-i.i - 1 + 1 ≡ c.loop-i.i = omega arith in rw (c.step-x.ensures, c.pattern_of.ensures, c.pattern_of-in-loop-i.ensures, e)
    (rw e at (stepped-next c.args.rows.now (c.loop-i.i - 1) c.args.falling (omega arith))) in
    let e : c.loop-i.i + 1 - 1 ≡ c.loop-i.i - 1 + 1 = omega arith in
    rw e (test-next c.loop-i.invariant (omega arith) (step_is) (sym c.fits.ensures ∙ c.if-not-fits.false))

pub returns : goal.returns
returns c = let a = c.args in test-end c.loop-i.invariant (stepped-end a.rows.now (c.loop-i.i - 1) a.falling (omega arith))
