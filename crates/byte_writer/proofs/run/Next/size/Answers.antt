-- `run::Next::size`: two bytes for a repeat, and the control byte with the literals; so few that nothing wraps. Assumes nothing.
use Rattle.format.proofs.Common.{arith}
use Rattle.byte_writer.proofs.run.Next.size.Goals as goal

pub overflow_add-result : goal.overflow_add-result
overflow_add-result c = omega (arith, rw c.in-Literals.is at c.requires)

pub returns-in-Literals : goal.returns-in-Literals
returns-in-Literals c = rw c.in-Literals.is
