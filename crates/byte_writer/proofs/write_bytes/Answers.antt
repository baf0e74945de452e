-- Measured first, and laid only if there is room: the law of such an outcome, for bytes. Assumes nothing.
use borrow.Author.Rules.{rules}
use Rattle.byte_writer.proofs.Outcomes.{too_few, laid}
use mathlib.Core.Path.{ap}
use lib.ListN.{length}
use Rattle.byte_writer.specs.Written.{wrote_bytes}
use Rattle.byte_writer.proofs.write_bytes.Goals as goal

pub returns : goal.returns
returns c =
    let size = c.measure-size.ensures in
    laid size c.if-out-size.false (ap (wrote_bytes (length c.args.bytes.now)) size) c.lay.ensures

pub returns-then-out-size : goal.returns-then-out-size
returns-then-out-size c = search (too_few, rules)
