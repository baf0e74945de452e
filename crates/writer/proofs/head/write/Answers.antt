-- Two places are set, and the numbers in them are not cut to a byte. Assumes nothing.
use Rattle.format.proofs.Common.{arith}
use Rattle.writer.proofs.Pieces.{two-set}
use Rattle.writer.proofs.head.write.Goals as goal

pub returns : goal.returns
returns c = two-set c.args.out.now _ _ (omega arith)
