-- Each promise is an equation for the answer and for every lent place, so any two outcomes are equal. Assumes nothing.
use mathlib.Core.Path.{sym, ◌∙◌}
use Rattle.lines.specs.Outcomes.{AnswerLineDetermined, ReadLineDetermined}

pub answer-line-determined : AnswerLineDetermined
answer-line-determined line out out' out'' r r' p q = (p.count ∙ sym q.count, p.places ∙ sym q.places)

pub read-line-determined : ReadLineDetermined
read-line-determined line out out' out'' r r' p q = (p.answer ∙ sym q.answer, p.places ∙ sym q.places)
