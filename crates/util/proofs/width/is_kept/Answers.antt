-- A kept code is its own next. Assumes nothing.
use Rattle.format.proofs.Common.{sym, arith}
use Rattle.format.proofs.Kept.{no-code-kept, kept_next}
use Rattle.util.proofs.width.is_kept.Goals as goal

pub returns : goal.returns
returns c = rw c.next_kept.ensures (sym (kept_next _ (omega arith)))

pub returns-then-code-gt31 : goal.returns-then-code-gt31
returns-then-code-gt31 c = sym (no-code-kept _ c.if-code-gt31.true)
