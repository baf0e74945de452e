-- `lines::answer_line` meets its promise, for bad lines and for too little room too. Assumes nothing.
use native.Mathlib.Omega.{arith}
use Rattle.lines.proofs.Frames.{frame-long, frame-fits, text_of, text-bad, answered-none, answered}
use Rattle.lines.proofs.answer_line.Goals as goal

pub returns-then-out-lt-ANSWER_ROOM : goal.returns-then-out-lt-ANSWER_ROOM
returns-then-out-lt-ANSWER_ROOM c =
    let a = c.args in
    answered-none a.line.now a.out.now a.out.now c.if-out-lt-ANSWER_ROOM.true

pub returns-in_default : goal.returns-in_default
returns-in_default c =
    let a = c.args in
    answered a.line.now a.out.now _ _ c.if-out-lt-ANSWER_ROOM.false
    (rw (text-bad _ c.in_default.ensures) c.put_word.ensures)

pub slice_bounds-frame-end : goal.slice_bounds-frame-end
slice_bounds-frame-end c =
    frame-fits _ _ _ c.in-Some.ensures.0

pub slice_bounds-put_frame-end : goal.slice_bounds-put_frame-end
slice_bounds-put_frame-end c =
    frame-long _ _ _ c.in-Some.ensures.0

pub put_frame-written-requires : goal.put_frame-written-requires
put_frame-written-requires c =
    (omega (arith, c.in-Some.ensures.1, frame-long _ _ _ c.in-Some.ensures.0), omega arith)

pub returns : goal.returns
returns c =
    let a = c.args in
    answered a.line.now a.out.now _ _ c.if-out-lt-ANSWER_ROOM.false (rw (text_of _ _ _ c.in-Some.ensures.0) at c.put_frame-written.ensures)
