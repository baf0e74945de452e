-- The line of a run is five texts, one after the other, and the room left after each is what the next one needs. Assumes nothing.
use native.Mathlib.Omega.{arith}
use Rattle.text.proofs.Texts.{decimal-length, then-written}
use Rattle.lines.proofs.put_run.Goals as goal

pub put_decimal-at-requires : goal.put_decimal-at-requires
put_decimal-at-requires c = omega (arith, decimal-length)

pub put-at-requires : goal.put-at-requires
put-at-requires c = omega (arith, decimal-length)

pub put_decimal-at-requires-2 : goal.put_decimal-at-requires-2
put_decimal-at-requires-2 c = omega (arith, decimal-length)

pub put_rows-at-requires : goal.put_rows-at-requires
put_rows-at-requires c = (omega arith, omega (arith, decimal-length))

pub returns : goal.returns
returns c =
    then-written (omega arith)
    (then-written (omega arith) (then-written (omega arith) c.put_word-at.ensures c.put_decimal-at.ensures)
    (then-written (omega (arith, decimal-length)) c.put-at.ensures c.put_decimal-at-2.ensures))
    c.put_rows-at.ensures
