-- The part is the definition's. Assumes nothing.
use Rattle.format.proofs.Reading.{bytes-here, bytes_cut}
use Rattle.format.proofs.Common.{add-sub_cancel_left}
use Rattle.variable_length.proofs.value.Goals as goal

pub returns-then-size-input : goal.returns-then-size-input
returns-then-size-input c =
    let a = c.args in
    let here = bytes-here a.input.now c.rest-start.result.bytes 6 a.n.bytes c.if-size-input.true in
    record { part-is = rw (← c.rest-start.ensures.1, here, add-sub_cancel_left) }

pub returns : goal.returns
returns c =
    let a = c.args in
    record { part-is = rw (← c.rest-start.ensures.1, bytes_cut a.input.now c.rest-start.result.bytes 6 a.n.bytes c.if-size-input.false) }
