-- Two bytes are those of any header, and two more places are set after them. Assumes nothing.
use Rattle.format.proofs.Common.{refl, arith}
use Rattle.format.specs.Runs.{head}
use Rattle.writer.proofs.Pieces.{four-set}
use Rattle.writer.proofs.patched_base.write_head.Goals as goal

pub returns : goal.returns
returns c =
    let a = c.args in
    four-set (head 2 a.h.code a.h.rows.rows) a.out.now _ _ _ refl (omega arith)
    c.write.ensures
