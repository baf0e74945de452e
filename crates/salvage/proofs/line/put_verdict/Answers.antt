-- The branch taken decides the verdict, and so the word that is written and its length. Assumes nothing.
use native.Mathlib.Omega.{arith}
use mathlib.Core.Path.{ap}
use lib.ListN.{length}
use Rattle.salvage.specs.Salvage.{verdict}
use Rattle.salvage.proofs.line.put_verdict.Goals as goal

pub put_word-end-requires : goal.put_word-end-requires
put_word-end-requires c = omega (arith, c.requires, ap (λ k. length (verdict k)) c.if-keep.true)

pub returns-then-keep : goal.returns-then-keep
returns-then-keep c = rw c.if-keep.true c.put_word-end.ensures

pub put_word-end-requires-2 : goal.put_word-end-requires-2
put_word-end-requires-2 c = omega (arith, c.requires, ap (λ k. length (verdict k)) c.if-keep.false)

pub returns : goal.returns
returns c = rw c.if-keep.false c.put_word-end-2.ensures
