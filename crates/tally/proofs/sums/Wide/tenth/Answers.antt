-- Long division by ten in half words: each remainder is below ten, so that no word overflows. Assumes nothing.
use Rattle.tally.proofs.Decimal.{upper_fits, tenth-is}
use Rattle.std.proofs.Common.{arith}
use Rattle.tally.proofs.sums.Wide.tenth.Goals as goal

pub overflow_add-upper : goal.overflow_add-upper
overflow_add-upper c =
    let w = c.args.self in
    record { fits = upper_fits w.high w.low (omega arith) }

pub returns : goal.returns
returns c =
    let w = c.args.self in
    tenth-is w.high w.low
