-- The answer names what the tests found. Assumes nothing.
use native.Mathlib.Omega.{arith}
use mathlib.Core.Path.{◌∙◌}
use Rattle.rle_v2.specs.DeltaStart.{Passed}
use Rattle.rle_v2.proofs.DeltaRun.{run, passed-answer}
use Rattle.rle_v2.proofs.delta.measure.Goals as goal

pub returns-then-f-ne0 : goal.returns-then-f-ne0
returns-then-f-ne0 c = c.answer.ensures ∙ c.measured-f.ensures.refusal c.if-f-ne0.true

pub returns : goal.returns
returns c =
    let passed : (let a = c.args in Passed a.input.now a.at.bytes (run a.input.now a.at.bytes) c.measured-f.result) = c.measured-f.ensures.passed c.if-f-ne0.false in
    let a = c.args in
    rw c.new.ensures (passed-answer a.input.now a.at.bytes _ _ (passed))

pub overflow_sub-consumed : goal.overflow_sub-consumed
overflow_sub-consumed c =
    let passed : (let a = c.args in Passed a.input.now a.at.bytes (run a.input.now a.at.bytes) c.measured-f.result) = c.measured-f.ensures.passed c.if-f-ne0.false in
    omega (arith, passed.from)
