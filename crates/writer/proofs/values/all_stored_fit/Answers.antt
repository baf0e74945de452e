-- Assumes nothing.
use Rattle.format.proofs.Common.{◌≡◌, true, false, ◌^◌, ltb, rules, map, ◌∙◌, sym}
use borrow.Author.Tests.{tests}
use Rattle.std.proofs.lemmas.Iterator.{cases_from_all, YieldsList-from_slice}
use Rattle.format.specs.Rows.{as_u64}
use Rattle.format.specs.Writing
use Rattle.writer.proofs.Turns.{all-answer, every-map}
use Rattle.writer.proofs.values.all_stored_fit.Goals as goal

pub returns : goal.returns
returns c = let a = c.args in
    all-answer (λ x. ltb (Writing.stored a.signed x) (2 ^ a.bits)) a.rows.now c.all.result
    (cases_from_all _ _ _ (λ z. ltb (Writing.stored a.signed (as_u64 z)) (2 ^ a.bits) ≡ true) (λ z. ltb (Writing.stored a.signed (as_u64 z)) (2 ^ a.bits) ≡ false)
    c.all.ensures.ran (YieldsList-from_slice a.rows.now cc) (λ x q k. search (rules, tests)) (λ x q k. search (rules, tests)))
    ∙ sym (every-map (λ x. ltb x (2 ^ a.bits)) (Writing.stored a.signed) (map as_u64 a.rows.now))
