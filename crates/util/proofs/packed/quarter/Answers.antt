use Rattle.format.proofs.Common.{◌∙◌}
use Rattle.util.proofs.Window.{quarter-is}
use Rattle.util.proofs.packed.quarter.Goals as goal

pub returns : goal.returns
returns c = c.from.ensures ∙ c.from_be_bytes.ensures ∙ quarter-is c.args.s.now c.args.i c.requires
