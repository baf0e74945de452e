-- A row from 0 on is doubled; one below 0 is turned over, doubled, and made odd. Assumes nothing.
use Rattle.format.proofs.Common.{sym}
use Rattle.format.proofs.Patterns.{zigzagged-low, zigzagged-high}
use Rattle.util.proofs.pattern.zigzag_of.Goals as goal

pub returns-then-b-lt-TOP_BIT : goal.returns-then-b-lt-TOP_BIT
returns-then-b-lt-TOP_BIT c = sym (zigzagged-low _ c.if-b-lt-TOP_BIT.true)

pub returns-else-b-lt-TOP_BIT : goal.returns-else-b-lt-TOP_BIT
returns-else-b-lt-TOP_BIT c = sym (zigzagged-high _ c.if-b-lt-TOP_BIT.false)
