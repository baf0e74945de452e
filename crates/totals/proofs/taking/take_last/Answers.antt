-- `taking::take_last` meets its contract. Assumes nothing.
use mathlib.Core.Path.{sym, ◌∙◌}
use Rattle.totals.proofs.Onward.{last_none, last_one, line-stopped}
use Rattle.totals.proofs.taking.take_last.Goals as goal

pub returns-then-is_empty : goal.returns-then-is_empty
returns-then-is_empty c = last_none _ _ (sym c.is_empty.ensures ∙ c.if-is_empty.true)

pub returns-in-Ok : goal.returns-in-Ok
returns-in-Ok c = last_one _ _ (sym c.is_empty.ensures ∙ c.if-is_empty.false) ∙ sym c.in-Ok.ensures

pub returns-in-Err : goal.returns-in-Err
returns-in-Err c =
    rw (c.stopped.ensures.next, c.stopped.ensures.totals)
    (last_one _ _ (sym c.is_empty.ensures ∙ c.if-is_empty.false) ∙ line-stopped _ _ c.in-Err.stop c.in-Err.ensures)

pub take_line-requires : goal.take_line-requires
take_line-requires c = c.requires.1
