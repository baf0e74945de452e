use Rattle.format.proofs.Common.{◌*◌, ◌+◌, ◌<◌, arith, get_or}
use Rattle.text.specs.Hexadecimal.{hex_value}
use Rattle.text.proofs.HexDigits.{ends-line, ends-high, ends_low, begun-next}
use Rattle.text.proofs.hexadecimal.bytes.Goals as goal

pub returns-in_default : goal.returns-in_default
returns-in_default c = ends-high c.loop-i.invariant (omega arith) (omega arith) c.in_default.ensures

pub returns-in_default-digit : goal.returns-in_default-digit
returns-in_default-digit c =
    let high : hex_value (get_or c.args.line.now (2 * c.loop-i.i) 0) < 16 = rw (c.in-Some.ensures.0) at c.in-Some.ensures.1 in
    ends_low c.loop-i.invariant (omega arith) (omega arith) high c.in_default-digit.ensures

pub loop-i-preserved : goal.loop-i-preserved
loop-i-preserved c =
    let high : hex_value (get_or c.args.line.now (2 * c.loop-i.i) 0) < 16 = rw (c.in-Some.ensures.0) at c.in-Some.ensures.1 in
    let low : hex_value (get_or c.args.line.now (2 * c.loop-i.i + 1) 0) < 16 = rw (c.in-Some-digit.ensures.0) at c.in-Some-digit.ensures.1 in
    rw (c.in-Some.ensures.0, c.in-Some-digit.ensures.0) (begun-next c.loop-i.invariant (omega arith) (omega arith) high low)

pub returns : goal.returns
returns c = ends-line c.loop-i.invariant (omega (arith, c.loop-i.invariant.same)) (omega arith)
