-- The number stands after the label, and no number has more than 20 digits. Assumes nothing.
use Rattle.format.proofs.Common.{arith}
use Rattle.text.proofs.Texts.{texts-join, decimal-length}
use Rattle.text.proofs.put_labelled.Goals as goal

pub returns : goal.returns
returns c = record { text_written = search texts-join; upper_bound = omega (arith, decimal-length c.args.x) }
