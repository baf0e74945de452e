-- One place is set: what was written before it stays, and the place after it is the next. Assumes nothing.
use Rattle.format.proofs.Common.{arith}
use Rattle.text.proofs.Texts.{one_written}
use Rattle.text.proofs.put.Goals as goal

pub returns : goal.returns
returns c = one_written c.args.out.now c.args.at c.args.c (omega arith)
