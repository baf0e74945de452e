-- Measured first, and laid only if there is room: the law of such an outcome, for booleans. Assumes nothing.
use Rattle.std.specs.Prelude.{Some, Ok}
use mathlib.Core.Path.{ap}
use Rattle.format.specs.Answers.{Answer}
use borrow.Author.Rules.{rules}
use Rattle.byte_writer.proofs.Outcomes.{too_few, laid}
use Rattle.byte_writer.proofs.write_booleans.Goals as goal

pub returns : goal.returns
returns c =
    let size = c.measure-size.ensures in
    laid size c.if-out-size.false (rw size at (ap {B = Answer} (λ r. Ok (Some r)) c.new-2.ensures)) c.lay.ensures

pub returns-then-out-size : goal.returns-then-out-size
returns-then-out-size c = search (too_few, rules)
