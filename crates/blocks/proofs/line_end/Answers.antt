use Rattle.std.proofs.Common.{drop, arith, length-drop}
use Rattle.blocks.proofs.Lines.{line-le, newline-here, newline-later}
use Rattle.blocks.proofs.line_end.Goals as goal

pub returns-then-input-i-eq-NEWLINE : goal.returns-then-input-i-eq-NEWLINE
returns-then-input-i-eq-NEWLINE c =
    let l = c.loop-i in
    let a = c.args in
    omega (arith, newline-here a.input.now l.i (omega arith) c.if-input-i-eq-NEWLINE.true)

pub loop-i-preserved : goal.loop-i-preserved
loop-i-preserved c =
    let l = c.loop-i in
    let a = c.args in
    (omega arith, omega (arith, newline-later a.input.now l.i (omega arith) c.if-input-i-eq-NEWLINE.false))

pub returns : goal.returns
returns c =
    let l = c.loop-i in
    let a = c.args in
    omega (arith, line-le (drop l.i a.input.now), length-drop l.i a.input.now)
