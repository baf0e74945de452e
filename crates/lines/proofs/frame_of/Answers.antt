-- The tests come in the definition's order, so each return is the case of the first that fails, or a frame if none does. Assumes nothing.
use mathlib.Core.Path.{sym, ◌∙◌}
use native.Mathlib.Omega.{arith}
use Rattle.lines.proofs.Frames.{bad-empty, bad-odd, bad-long, bad-digit, bad-flag, framed}
use Rattle.text.proofs.HexDigits.{all-written}
use Rattle.lines.proofs.frame_of.Goals as goal

pub returns-then-len-eq0 : goal.returns-then-len-eq0
returns-then-len-eq0 c =
    let a = c.args in
    bad-empty a.line.now c.if-len-eq0.true

pub returns-then-len-eq1 : goal.returns-then-len-eq1
returns-then-len-eq1 c =
    let a = c.args in
    bad-odd a.line.now c.if-len-eq0.false c.if-len-eq1.true

pub returns-then-len-gt-MAX_LINE : goal.returns-then-len-gt-MAX_LINE
returns-then-len-gt-MAX_LINE c =
    let a = c.args in
    bad-long a.line.now c.if-len-eq0.false c.if-len-eq1.false c.if-len-gt-MAX_LINE.true

pub returns-then-not-bytes : goal.returns-then-not-bytes
returns-then-not-bytes c =
    let a = c.args in
    bad-digit a.line.now c.if-len-eq0.false c.if-len-eq1.false c.if-len-gt-MAX_LINE.false
    (sym c.bytes.ensures.answer ∙ c.if-not-bytes.true)

pub returns-then-frame-gt1 : goal.returns-then-frame-gt1
returns-then-frame-gt1 c =
    let a = c.args in
    let t = c.if-not-bytes.false in
    bad-flag a.line.now c.if-len-eq0.false c.if-len-eq1.false c.if-len-gt-MAX_LINE.false _ (sym c.bytes.ensures.answer ∙ t)
    (all-written c.bytes.ensures t) (omega (arith, c.bytes.auto.frame)) (omega arith)

pub returns : goal.returns
returns c =
    let a = c.args in
    let t = c.if-not-bytes.false in
    framed a.line.now c.if-len-eq0.false c.if-len-eq1.false c.if-len-gt-MAX_LINE.false _ (sym c.bytes.ensures.answer ∙ t)
    (all-written c.bytes.ensures t) (omega (arith, c.bytes.auto.frame)) (omega arith)
