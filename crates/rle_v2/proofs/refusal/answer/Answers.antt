-- A field that begins at 0 is none. Assumes nothing.
use borrow.Author.Tests.{ne_eqb}
use Rattle.rle_v2.proofs.refusal.answer.Goals as goal

pub returns-then-first-eq0 : goal.returns-then-first-eq0
returns-then-first-eq0 c = rw (c.new.ensures, c.if-first-eq0.true)

pub returns : goal.returns
returns c = rw (c.cut.ensures, ne_eqb c.args.field.bytes 0 c.if-first-eq0.false)
