-- Each turn writes a space and a row: the text of the rows so far is written. Assumes nothing.
use Rattle.format.proofs.Common.{◌+◌, ◌*◌, ◌≤◌, take}
use Rattle.text.specs.Decimal.{rows_text}
use Rattle.text.specs.Written.{TextWritten}
use Rattle.text.proofs.put_rows.Given as goal

abbrev pub invariant-loop-row : goal.invariant-loop-row
invariant-loop-row l =
    (l.place ≤ l.at + 22 * l.row-index) × TextWritten (rows_text (take l.row-index l.row-items)) l.initial.out l.at l.out l.place
