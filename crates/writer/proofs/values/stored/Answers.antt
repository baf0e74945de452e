-- A signed row is stored as its zigzag, another as it is. Assumes nothing.
use Rattle.format.specs.Writing
use Rattle.writer.proofs.values.stored.Goals as goal

pub returns-then-signed : goal.returns-then-signed
unfolding Writing.stored
returns-then-signed c = rw c.if-signed.true c.zigzag_of.ensures

pub returns-else-signed : goal.returns-else-signed
unfolding Writing.stored
returns-else-signed c = rw c.if-signed.false
