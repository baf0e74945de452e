-- The closing call keeps its promise. Assumes nothing.
use Rattle.std.proofs.Common.{arith, length-take, rules}
use Rattle.parts.proofs.Room.{no-places, no-lent, too-few-closes, closes-broken, closes-closed, closes-open}
use Rattle.format.proofs.Below.{below_all}
use Rattle.parts.proofs.close.Goals as goal

pub returns-then-out-lt-MAX_ROWS : goal.returns-then-out-lt-MAX_ROWS
returns-then-out-lt-MAX_ROWS c =
    let a = c.args in
    rw c.too_few.ensures
    (too-few-closes a.reader a.buffer.now a.signed a.out.now (no-places a.buffer.now a.out.now c.if-out-lt-MAX_ROWS.true))

pub returns-then-buffer-lt-MAX_BYTES : goal.returns-then-buffer-lt-MAX_BYTES
returns-then-buffer-lt-MAX_BYTES c =
    let a = c.args in
    rw c.too_few-then-buffer-lt-MAX_BYTES.ensures
    (too-few-closes a.reader a.buffer.now a.signed a.out.now (no-lent a.buffer.now a.out.now c.if-buffer-lt-MAX_BYTES.true))

pub returns-in-Broken : goal.returns-in-Broken
returns-in-Broken c =
    let a = c.args in
    rw c.idle.ensures (closes-broken a.reader a.buffer.now a.signed a.out.now (omega arith) (omega arith) _ c.in-Broken.is)

pub returns-in-Closed : goal.returns-in-Closed
returns-in-Closed c =
    let a = c.args in
    rw c.idle-in-Closed.ensures (closes-closed a.reader a.buffer.now a.signed a.out.now (omega arith) (omega arith) c.in-Closed.is)

pub returns-in-Opened : goal.returns-in-Opened
returns-in-Opened c =
    let a = c.args in
    rw c.on_close.ensures
    (closes-open a.reader a.buffer.now a.signed a.out.now (omega arith) (omega arith) _ _ _
    (below_all 256 a.buffer.now (search rules)) c.min-h.ensures c.in-Opened.is c.read_run-a.ensures)

pub slice_bounds-read_run-end : goal.slice_bounds-read_run-end
slice_bounds-read_run-end c = rw length-take (omega arith)
