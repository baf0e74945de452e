-- What the run reader promises of the rows bounds the answer's length, so that its words and the newline have room. Assumes nothing.
use mathlib.Core.Path.{sym, ◌∙◌}
use native.Mathlib.Omega.{arith}
use Rattle.text.proofs.Texts.{then-written}
use Rattle.lines.proofs.Frames.{reads, frame-text, reply-length}
use Rattle.lines.proofs.put_frame.Goals as goal

pub put_answer-at-requires : goal.put_answer-at-requires
put_answer-at-requires c =
    let h =
    reads c.args.frame.now _ _ _ _ c.row_places-rows.ensures c.read_frame-answer.ensures in
    (h.few, omega (arith, h.few, c.row_places-rows.ensures, c.read_frame-answer.auto.rows), c.requires.1)

pub put-end-requires : goal.put-end-requires
put-end-requires c =
    let h =
    reads c.args.frame.now _ _ _ _ c.row_places-rows.ensures c.read_frame-answer.ensures in
    omega (
      arith,
      c.requires,
      c.put_answer-at.ensures.next,
      c.put_answer-at.auto.out,
      reply-length c.read_frame-answer.result _ c.read_frame-answer.new.rows h.few,
    )

pub returns : goal.returns
returns c =
    let h =
    reads c.args.frame.now _ _ _ _ c.row_places-rows.ensures c.read_frame-answer.ensures in
    rw (frame-text c.args.frame.now c.requires.0 ∙ sym h.words) (then-written (omega arith) c.put_answer-at.ensures c.put-end.ensures)
