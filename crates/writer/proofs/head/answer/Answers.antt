-- The answer has the width of the code. Assumes nothing.
use Rattle.std.specs.Prelude.{Some, Ok}
use mathlib.Core.Path.{ap}
use Rattle.writer.proofs.head.answer.Goals as goal

pub returns : goal.returns
returns c = rw (← c.bits_of-bits.ensures) (ap (λ r. Ok (Some r)) c.new.ensures)
