use Rattle.format.proofs.Common.{◌∙◌}
use Rattle.util.proofs.Window.{word-is}
use Rattle.util.proofs.packed.word.Goals as goal

pub returns : goal.returns
returns c = c.from_be_bytes.ensures ∙ word-is c.args.s.now c.args.i c.requires
