-- A short repeat by its own reader, and any other run by the run reader. Assumes nothing.
use borrow.Author.Rules.{rules}
use Rattle.rle_v2.proofs.ByKind.{is-short}
use Rattle.rle_v2.proofs.read_first.Goals as goal

pub returns-then-input-eq0 : goal.returns-then-input-eq0
returns-then-input-eq0 c =
    let a = c.args in
    rw (is-short a.input.now 0 (search rules) c.if-input-eq0.true) c.read.ensures
