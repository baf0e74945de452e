-- Each reply has its own totals: one count set, or those of a run. Assumes nothing.
use Rattle.std.proofs.Common.{◌≤◌, length, sym, ◌∙◌, arith}
use Rattle.tally.specs.Totals.{rows_in, limit}
use Rattle.tally.specs.Held.{slot, line_with}
use Rattle.tally.proofs.Held.{slot-below, one-bad, one_end, one-refusal}
use Rattle.tally.proofs.totals.Totals.of_line.Goals as goal

pub offset_bounds-one-at : goal.offset_bounds-one-at
offset_bounds-one-at c = rw c.slot-at.ensures (omega (arith, slot-below c.in-Refused.number))

pub bounds-one-at : goal.bounds-one-at
bounds-one-at c = rw c.slot-at.ensures (slot-below c.in-Refused.number)

pub of_run-requires : goal.of_run-requires
of_run-requires c =
    let p : length (rows_in (line_with c.args.reply c.args.rows.now)) ≤ limit = c.requires in
    rw c.in-Run.is at p

pub returns-in-Bad : goal.returns-in-Bad
returns-in-Bad c = rw c.in-Bad.is (c.counting.ensures ∙ sym one-bad)

pub returns-in-End : goal.returns-in-End
returns-in-End c = rw c.in-End.is (c.counting-in-End.ensures ∙ sym one_end)

pub returns-in-Refused : goal.returns-in-Refused
returns-in-Refused c =
    rw (c.in-Refused.is, c.counting-one.ensures, c.slot-at.ensures) (sym (one-refusal (slot c.in-Refused.number)))

pub returns-in-Run : goal.returns-in-Run
returns-in-Run c = rw c.in-Run.is c.of_run.ensures
