-- The base delta as a zigzag. Assumes nothing.
use Rattle.format.proofs.Common.{ap, ◌∙◌}
use Rattle.format.specs.Fields.{zigzagged}
use Rattle.writer.proofs.delta.base_of.Goals as goal

pub returns : goal.returns
returns c = c.zigzag_of.ensures ∙ ap zigzagged c.base_delta.ensures
