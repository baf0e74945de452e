-- How many rows have their labels is put into the words, or there are too few of them. Assumes nothing.
use native.Mathlib.Omega.{arith}
use Rattle.exports.proofs.Telling.{laid}
use Rattle.exports.proofs.BatchTelling.{labels-long, labels-few, labels-told}
use Rattle.exports.proofs.lined_up_calls.orc_label_column.Goals as goal

pub returns : goal.returns
returns c =
    let enough = c.if-words-lt-LABELS_COUNT.false in
    labels-told c.label_column-labels.ensures enough (laid labels-long enough c.of_labels-said.ensures c.lay.ensures)

pub returns-then-words-lt-LABELS_COUNT : goal.returns-then-words-lt-LABELS_COUNT
returns-then-words-lt-LABELS_COUNT c = labels-few (omega arith)
