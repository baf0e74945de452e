-- `run::are_equal`: if the second differs the third is not asked, as in the definition. Assumes nothing.
use borrow.Author.Tests.{eq-eqb}
use Rattle.byte_writer.proofs.run.are_equal.Goals as goal

pub returns-then-second-first : goal.returns-then-second-first
returns-then-second-first c = rw (eq-eqb _ _ c.if-second-first.true)
