-- Assumes nothing.
use Rattle.format.proofs.Common.{◌≡◌, true, false, eqb, rules}
use borrow.Author.Tests.{tests}
use Rattle.std.proofs.lemmas.Iterator.{cases_from_all, YieldsList-from_slice}
use Rattle.format.specs.Rows.{as_u64}
use Rattle.writer.proofs.Turns.{all-answer}
use Rattle.writer.proofs.values.all_are.Goals as goal

pub returns : goal.returns
returns c = let a = c.args in
    all-answer (λ x. eqb x a.value) a.rows.now c.all.result
    (cases_from_all _ _ _ (λ z. eqb (as_u64 z) a.value ≡ true) (λ z. eqb (as_u64 z) a.value ≡ false) c.all.ensures.ran (YieldsList-from_slice a.rows.now cc) (λ x q k. search (rules, tests)) (λ x q k. search (rules, tests)))
