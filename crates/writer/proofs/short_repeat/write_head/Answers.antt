-- One place is set, and its number, below 64, is not cut to a byte. Assumes nothing.
use Rattle.format.proofs.Common.{arith}
use Rattle.writer.proofs.Pieces.{one_set}
use Rattle.writer.proofs.short_repeat.write_head.Goals as goal

pub returns : goal.returns
returns c = one_set c.args.out.now _ (omega arith)
