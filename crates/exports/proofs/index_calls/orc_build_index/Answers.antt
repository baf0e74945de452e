-- What was built is put into the words, or there are too few of them. Assumes nothing.
use native.Mathlib.Omega.{arith}
use Rattle.exports.proofs.Telling.{built-long, index-few, index-told, laid}
use Rattle.exports.proofs.index_calls.orc_build_index.Goals as goal

pub returns : goal.returns
returns c =
    let h = c.if-words-lt-BUILT_COUNT.false in
    index-told c.build-built.ensures h (laid built-long h c.of_built-said.ensures c.lay.ensures)

pub returns-then-words-lt-BUILT_COUNT : goal.returns-then-words-lt-BUILT_COUNT
returns-then-words-lt-BUILT_COUNT c = index-few (omega arith)
