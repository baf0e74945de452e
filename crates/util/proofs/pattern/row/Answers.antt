-- Signed rows are unzigzagged, others stand as they are. Assumes nothing.
use Rattle.format.specs.Fields.{row}
use Rattle.util.proofs.pattern.row.Goals as goal

pub returns-then-signed : goal.returns-then-signed
unfolding row
returns-then-signed c = rw c.if-signed.true c.unzigzag.ensures

pub returns-else-signed : goal.returns-else-signed
unfolding row
returns-else-signed c = rw c.if-signed.false
