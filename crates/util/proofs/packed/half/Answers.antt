use Rattle.format.proofs.Common.{◌∙◌}
use Rattle.util.proofs.Window.{half_is}
use Rattle.util.proofs.packed.half.Goals as goal

pub returns : goal.returns
returns c = c.from.ensures ∙ c.from_be_bytes.ensures ∙ half_is c.args.s.now c.args.i c.requires
