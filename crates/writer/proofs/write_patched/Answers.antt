-- A count outside 1 to 512 is refused; with any other the patched writer answers. Assumes nothing.
use Rattle.format.proofs.Common.{sym, ◌∙◌, length, to_z-of_z}
use Rattle.writer.proofs.Pieces.{within}
use Rattle.writer.proofs.PatchedHeader.{bad-count}
use Rattle.format.proofs.Common.{w64}
use Rattle.writer.proofs.write_patched.Goals as goal

pub write-requires : goal.write-requires
write-requires c = within 1 512 (length c.args.rows.now)
    (sym c.between.ensures ∙ c.if-between.true)

pub returns-then-between : goal.returns-then-between
returns-then-between c = rw (to_z-of_z {w = w64} c.ranges.base) at c.write.ensures

pub returns-else-between : goal.returns-else-between
returns-else-between c = let a = c.args in bad-count a.rows.now a.base a.width a.out.now c.refused.result
    (sym c.between.ensures ∙ c.if-between.false) c.refused.ensures
