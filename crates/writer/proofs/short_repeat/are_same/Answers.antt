-- All rows are the first one's pattern. Assumes nothing.
use Rattle.format.proofs.Common.{◌∙◌}
use Rattle.format.specs.Writing.{have_form}
use Rattle.writer.proofs.short_repeat.are_same.Goals as goal

pub returns : goal.returns
unfolding have_form
returns c = c.all_are.ensures ∙ rw c.pattern_of.ensures
