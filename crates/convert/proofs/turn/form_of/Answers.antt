-- A first byte below 128 is a direct run's, and any other that asks is a delta's, by the branch taken. Assumes nothing.
use borrow.Author.Tests.{lt-ltb, le-ltb}
use Rattle.convert.specs.Turn.{form_first}
use Rattle.convert.proofs.turn.form_of.Goals as goal

pub returns-then-first-lt128 : goal.returns-then-first-lt128
unfolding form_first
returns-then-first-lt128 c = rw (lt-ltb _ _ c.if-first-lt128.true)

pub returns-else-first-lt128 : goal.returns-else-first-lt128
unfolding form_first
returns-else-first-lt128 c = rw (le-ltb _ _ c.if-first-lt128.false)
