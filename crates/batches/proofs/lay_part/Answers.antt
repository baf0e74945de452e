-- The rows from the position on are copied, as many as there are places or as the run has left. Assumes nothing.
use native.Mathlib.Omega.{arith}
use Rattle.batches.proofs.PartOfRun.{part_cut, part-whole}
use Rattle.batches.proofs.lay_part.Goals as goal

pub returns-then-places-left : goal.returns-then-places-left
returns-then-places-left c =
    rw c.new.ensures (part_cut c.requires c.args.out.now _ (omega arith) c.copy.ensures)

pub returns : goal.returns
returns c =
    rw c.up_to.ensures (part-whole c.requires c.args.out.now _ (omega arith) c.copy-2.ensures)
