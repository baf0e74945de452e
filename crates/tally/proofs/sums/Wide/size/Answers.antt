-- Without the top bit the words are the size; with it, all bits turned over and one more. Assumes nothing.
use Rattle.std.proofs.Common.{ap, ◌∙◌, arith}
use Rattle.tally.specs.Wide.{size_of}
use Rattle.tally.proofs.Decimal.{size_above, size_below}
use Rattle.tally.proofs.sums.Wide.size.Goals as goal

pub returns-then-self-lt-TOP_BIT : goal.returns-then-self-lt-TOP_BIT
returns-then-self-lt-TOP_BIT c = size_above c.args.self c.if-self-lt-TOP_BIT.true

pub returns : goal.returns
returns c =
    let w = c.args.self in
    ap size_of c.plus.ensures ∙ size_below w (omega arith) (omega arith) c.if-self-lt-TOP_BIT.false
