-- `runs::turn` meets its contract, and hands on as many bytes as the system says that came. Assumes nothing.
use Rattle.std.proofs.Common.{sym, refl, arith, length-take-le}
use Rattle.runs.proofs.TextSaid.{read-given}
use Rattle.runs.proofs.turn.Goals as goal

pub slice_bounds-answer_came-end-2 : goal.slice_bounds-answer_came-end-2
slice_bounds-answer_came-end-2 g c = sym (length-take-le _ _ c.one_more-block.ensures.came.within)

pub answer_came-answers-requires : goal.answer_came-answers-requires
answer_came-answers-requires g c =
    let r = c.one_more-block in
    let h = c.requires in
    (read-given _ _ _ _ r.result r.ensures h.1.1 (omega (arith, h.0)) h.1.0 r.result.got refl, h.2)

pub returns : goal.returns
returns g c =
    let r = c.one_more-block in
    record { read = r.result; once = r.ensures; is = refl; after = c.answer_came-answers.ensures }
