-- A call with a part keeps its promise: without room, stopped, or open. Assumes nothing.
use Rattle.std.proofs.Common.{arith}
use Rattle.parts.proofs.Room.{no-places, no-lent, too-few-takes, takes-broken, takes-closed, takes-open}
use Rattle.parts.proofs.take.Goals as goal

pub returns-then-out-lt-MAX_ROWS : goal.returns-then-out-lt-MAX_ROWS
returns-then-out-lt-MAX_ROWS c =
    let a = c.args in
    rw c.too_few.ensures
    (too-few-takes a.reader a.part.now a.buffer.now a.signed a.out.now (no-places a.buffer.now a.out.now c.if-out-lt-MAX_ROWS.true))

pub returns-then-buffer-lt-MAX_BYTES : goal.returns-then-buffer-lt-MAX_BYTES
returns-then-buffer-lt-MAX_BYTES c =
    let a = c.args in
    rw c.too_few-then-buffer-lt-MAX_BYTES.ensures
    (too-few-takes a.reader a.part.now a.buffer.now a.signed a.out.now (no-lent a.buffer.now a.out.now c.if-buffer-lt-MAX_BYTES.true))

pub returns-in-Broken : goal.returns-in-Broken
returns-in-Broken c =
    let a = c.args in
    rw c.idle.ensures
    (takes-broken a.reader a.part.now a.buffer.now a.signed a.out.now (omega arith) (omega arith) _ c.in-Broken.is)

pub returns-in-Closed : goal.returns-in-Closed
returns-in-Closed c =
    let a = c.args in
    rw c.idle-in-Closed.ensures
    (takes-closed a.reader a.part.now a.buffer.now a.signed a.out.now (omega arith) (omega arith) c.in-Closed.is)

pub returns-in-Opened : goal.returns-in-Opened
returns-in-Opened c =
    let a = c.args in
    takes-open a.reader a.part.now a.buffer.now a.signed a.out.now (omega arith) (omega arith) _ _ _ c.in-Opened.is
    c.opened.ensures
