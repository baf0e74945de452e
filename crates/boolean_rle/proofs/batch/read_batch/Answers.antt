-- Which of the two positions was found, and whether there was room. Assumes nothing.
use mathlib.Core.Path.{◌≡◌, refl}
use Prim.Native.Nat.{max}
use borrow.Author.Rules.{rules}
use Rattle.std.proofs.lemmas.Result.{err_from_is_err_and}
use Rattle.format.specs.Answers.{cutting}
use Rattle.boolean_rle.specs.Walked.{cut_before, cut_within, no_room, whole}
use Rattle.boolean_rle.proofs.Placed.{was-err, was-ok}
use Rattle.boolean_rle.proofs.batch.read_batch.Goals as goal

pub returns-in_err-begin : goal.returns-in_err-begin
returns-in_err-begin g c =
    let at = c.args.at.bytes in
    let p = err_from_is_err_and c.from_residual.result c.from_residual.ensures.1 in
    let m = was-err _ c.after.ensures c.map_err.ensures.cases c.in_err-begin.was in
    let refusal-is : c.in_err-begin.field-0.0 ≡ cutting m.0.number at (max at m.0.field) = search rules in
    rw (p.1, p.2, refusal-is) (cut_before m.0 m.1 refl refl)

pub returns-in_err-next : goal.returns-in_err-next
returns-in_err-next g c =
    let at = c.args.at.bytes in
    let p = err_from_is_err_and c.from_residual-in_err-next.result c.from_residual-in_err-next.ensures.1 in
    let b = was-ok _ c.after.ensures c.map_err.ensures.cases c.in_ok-begin.was in
    let m = was-err _ c.after-2.ensures c.map_err-2.ensures.cases c.in_err-next.was in
    let refusal-is : c.in_err-next.field-0.0 ≡ cutting m.0.number at (max at m.0.field) = search rules in
    rw (p.1, p.2, refusal-is) (cut_within _ m.0 b m.1 refl refl)

pub returns-then-out-rows : goal.returns-then-out-rows
returns-then-out-rows g c =
    let b = was-ok _ c.after.ensures c.map_err.ensures.cases c.in_ok-begin.was in
    let q = was-ok _ c.after-2.ensures c.map_err-2.ensures.cases c.in_ok-next.was in
    rw c.new.ensures (no_room _ _ b q c.if-out-rows.true refl refl)

pub returns : goal.returns
returns g c =
    let b = was-ok _ c.after.ensures c.map_err.ensures.cases c.in_ok-begin.was in
    let q = was-ok _ c.after-2.ensures c.map_err-2.ensures.cases c.in_ok-next.was in
    whole _ _ b q c.if-out-rows.false c.put.ensures refl
