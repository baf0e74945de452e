-- What the check says is put into the words, or there are too few of them. Assumes nothing.
use mathlib.Core.Path.{refl}
use native.Mathlib.Omega.{arith}
use Rattle.answer_words.proofs.Telling.{few}
use Rattle.exports.proofs.Telling.{check-long, laid_by, told}
use Rattle.exports.proofs.column_calls.orc_check_column.Goals as goal

pub returns : goal.returns
returns c =
    told c.check-checked.ensures (laid_by check-long c.if-words-lt-CHECK_COUNT.false refl c.of_checked-said.ensures c.lay.ensures)

pub returns-then-words-lt-CHECK_COUNT : goal.returns-then-words-lt-CHECK_COUNT
returns-then-words-lt-CHECK_COUNT c = few check-long (omega arith)
