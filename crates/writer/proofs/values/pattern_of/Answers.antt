-- The row at a place is an i64, and its pattern has the same bits. Assumes nothing.
use Rattle.format.proofs.Common.{◌∙◌, rules}
use Rattle.writer.proofs.Laws.{bits_at}
use Rattle.writer.proofs.values.pattern_of.Goals as goal

pub returns : goal.returns
returns c = let a = c.args in c.cast_unsigned.ensures ∙ bits_at a.rows.now a.i (search rules)
