-- The value is below 0 exactly if the high word has its top bit. Assumes nothing.
use Rattle.tally.proofs.Decimal.{sign-is}
use Rattle.tally.proofs.sums.Wide.is_negative.Goals as goal

pub returns : goal.returns
returns c = sign-is c.args.self
