-- Below 2^63 the base is its own magnitude; above, it is what is missing to 2^64. Assumes nothing.
use Rattle.format.proofs.Common.{arith, lt-leb, le-leb}
use Rattle.writer.proofs.patched_base.magnitude.Goals as goal

pub returns-else-base-lt-TOP_BIT : goal.returns-else-base-lt-TOP_BIT
returns-else-base-lt-TOP_BIT c = simp (le-leb _ _ c.if-base-lt-TOP_BIT.false) (omega arith)

pub returns-then-base-lt-TOP_BIT : goal.returns-then-base-lt-TOP_BIT
returns-then-base-lt-TOP_BIT c = simp (lt-leb _ _ c.if-base-lt-TOP_BIT.true)
