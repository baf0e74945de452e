-- By the code that stands for the width: no kept width is outside of the table. Assumes nothing.
use Rattle.format.proofs.Common.{◌∙◌}
use Rattle.format.specs.Kept.{is_kept, among, kept_codes}
use Rattle.format.proofs.Kept.{kept-by-code}
use Rattle.writer.proofs.patched_base.is_kept.Goals as goal

pub returns-in-Some : goal.returns-in-Some
returns-in-Some c = let m = rw c.in-Some.is at c.table_code.ensures in c.is_kept.ensures ∙ rw m.0 (kept-by-code _)

pub returns-in-None : goal.returns-in-None
unfolding is_kept among kept_codes
returns-in-None c = rw (rw c.in-None.is at c.table_code.ensures) at (kept-by-code c.args.bits)
