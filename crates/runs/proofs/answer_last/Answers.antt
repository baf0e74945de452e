-- `runs::answer_last` hands over the definition's text: an answer line stands within the bytes that were lent. Assumes nothing.
use Rattle.std.proofs.Common.{sym, ◌∙◌, length-take-le}
use Rattle.runs.proofs.Lines.{answered-le}
use Rattle.runs.proofs.Pieces.{open-text, no_answer, last-text}
use Rattle.runs.proofs.TextSaid.{last-due, last-said, none_last}
use Rattle.runs.proofs.answer_last.Goals as goal

pub returns-then-line-eq0 : goal.returns-then-line-eq0
returns-then-line-eq0 g c = none_last _ _ _ c.requires.1 (no_answer _ c.if-line-eq0.true)

pub slice_bounds-say-end : goal.slice_bounds-say-end
slice_bounds-say-end g c = answered-le _ _ _ _ c.answer_line-written.ensures

pub slice_bounds-say-end-2 : goal.slice_bounds-say-end-2
slice_bounds-say-end-2 g c = sym (length-take-le c.answer_line-written.result c.answer_line-written.new.out (answered-le _ _ _ _ c.answer_line-written.ensures))

pub say-said-requires : goal.say-said-requires
say-said-requires g c =
    let h = c.requires in
    let t = last-text _ _ _ _ c.answer_line-written.ensures h.2 h.0 c.if-line-eq0.false in
    (t, last-due _ _ _ h.1 _ (t ∙ open-text _ h.0))

pub returns : goal.returns
returns g c =
    let h = c.requires in
    let t = last-text _ _ _ _ c.answer_line-written.ensures h.2 h.0 c.if-line-eq0.false in
    last-said _ _ _ h.1 c.say-said.result _ (t ∙ open-text _ h.0) c.say-said.ensures (sym c.is_cut.ensures ∙ c.if-is_cut.false)
