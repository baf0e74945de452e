-- Of the codes, the least that holds the bits is the only one to look at. Assumes nothing.
use Rattle.format.proofs.Common.{sym, ◌∙◌, arith}
use Rattle.format.proofs.Rows.{width-le}
use Rattle.writer.proofs.PatchedLaws.{code_is, code-none, code-wide}
use Rattle.writer.proofs.patched_base.table_code.Goals as goal

pub returns-then-bits-gt64 : goal.returns-then-bits-gt64
returns-then-bits-gt64 c = sym (code-wide _ c.if-bits-gt64.true width-le)

pub returns-then-bits_of-bits : goal.returns-then-bits_of-bits
returns-then-bits_of-bits c = (code_is _ _ c.code_of-code.ensures (sym c.bits_of.ensures ∙ c.if-bits_of-bits.true), omega arith)

pub returns-else-bits_of-bits : goal.returns-else-bits_of-bits
returns-else-bits_of-bits c = sym (code-none _ _ (omega arith) c.code_of-code.ensures (λ e. c.if-bits_of-bits.false (c.bits_of.ensures ∙ e)))
