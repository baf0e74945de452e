-- The test for room is the definition's. Assumes nothing.
use Rattle.std.specs.Prelude.{Some, Ok, Err}
use Rattle.std.specs.Prelude.{Err}
use mathlib.Core.Path.{ap}
use Rattle.format.proofs.Common.{◌+◌, ◌-◌, ◌≡◌, arith, length, length-drop}
use Rattle.format.proofs.Reading.{bytes-here, bytes_cut}
use Rattle.variable_length.proofs.read_value.Goals as goal

pub returns-then-size-input : goal.returns-then-size-input
returns-then-size-input c =
    let a = c.args in
    let here = bytes-here a.input.now c.rest-start.result.bytes 6 a.n.bytes c.if-size-input.true in
    record { answer = rw (← c.rest-start.ensures.1, here) (ap (λ r. Ok (Some r)) c.new.ensures) }

pub returns-else-size-input : goal.returns-else-size-input
returns-else-size-input c =
    let a = c.args in
    let s = a.input.now in
    let e : a.at.bytes + (length s - a.at.bytes - (length s - a.at.bytes)) ≡ a.at.bytes = omega arith in
    let short = bytes_cut s c.rest-start.result.bytes 6 a.n.bytes c.if-size-input.false in
    record { answer = rw (← c.rest-start.ensures.1, short, c.rest-start.ensures.1, length-drop, e) (ap Err c.cut.ensures) }
