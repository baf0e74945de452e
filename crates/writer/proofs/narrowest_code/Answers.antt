-- The next kept code after the narrowest. Assumes nothing.
use Rattle.format.proofs.Kept.{narrowest-next}
use Rattle.writer.proofs.narrowest_code.Goals as goal

pub returns : goal.returns
returns c = rw c.next_kept.ensures (narrowest-next _ _ c.narrowest_code.ensures)

pub next_kept-requires : goal.next_kept-requires
next_kept-requires c = c.narrowest_code.ensures.is_code
