-- The delta reader meets its contract: what the tests found is laid down where there is room. Assumes nothing.
use native.Mathlib.Omega.{arith}
use Rattle.rle_v2.specs.DeltaStart.{Passed}
use Rattle.rle_v2.proofs.RefusedBy.{refused_none}
use Rattle.rle_v2.proofs.DeltaRun.{run, passed-8, passed-read}
use Rattle.rle_v2.proofs.delta.read.Goals as goal

pub returns-then-f-ne0 : goal.returns-then-f-ne0
returns-then-f-ne0 c =
    let a = c.args in
    rw c.answer.ensures
    (refused_none a.at.bytes c.measured-f.result.number c.measured-f.result.field.bytes a.input.now (run a.input.now a.at.bytes) a.signed a.out.now (c.measured-f.ensures.refusal c.if-f-ne0.true))

pub returns-then-out-rows : goal.returns-then-out-rows
returns-then-out-rows c =
    let passed : (let a = c.args in Passed a.input.now a.at.bytes (run a.input.now a.at.bytes) c.measured-f.result) = c.measured-f.ensures.passed c.if-f-ne0.false in
    let a = c.args in
    rw c.new.ensures (passed-8 a.input.now a.at.bytes _ _ (passed) a.signed a.out.now c.if-out-rows.true)

pub lay-requires : goal.lay-requires
lay-requires c =
    let passed : (let a = c.args in Passed a.input.now a.at.bytes (run a.input.now a.at.bytes) c.measured-f.result) = c.measured-f.ensures.passed c.if-f-ne0.false in
    (passed.ready, c.if-out-rows.false)

pub overflow_sub-consumed : goal.overflow_sub-consumed
overflow_sub-consumed c =
    let passed : (let a = c.args in Passed a.input.now a.at.bytes (run a.input.now a.at.bytes) c.measured-f.result) = c.measured-f.ensures.passed c.if-f-ne0.false in
    omega (arith, passed.from)

pub returns : goal.returns
returns c =
    let passed : (let a = c.args in Passed a.input.now a.at.bytes (run a.input.now a.at.bytes) c.measured-f.result) = c.measured-f.ensures.passed c.if-f-ne0.false in
    let a = c.args in
    rw c.new-2.ensures (passed-read a.input.now a.at.bytes _ _ (passed) a.signed a.out.now _ c.if-out-rows.false c.lay.ensures)
