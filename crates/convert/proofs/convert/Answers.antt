-- The first walk has no place to write to and gives the answer; the second writes what the first measured. Assumes nothing.
use Rattle.std.proofs.lemmas.Result.{err_from_is_err_and}
use Rattle.convert.proofs.Calls.{back_none, converts-refused, converts-done}
use Rattle.convert.proofs.convert.Goals as goal

pub returns : goal.returns
returns c =
    let a = c.args in
    let w = c.walk.ensures in
    converts-done a.signed a.input.now a.out.now _ _ _ w _ c.in_ok-walk.was _ _ _
    (back_none a.out.now c.walk.new.out w.long) c.walk-2.ensures

pub returns-in_err-walk : goal.returns-in_err-walk
returns-in_err-walk c =
    let a = c.args in
    let w = c.walk.ensures in
    let p = err_from_is_err_and c.from_residual.result c.from_residual.ensures.1 in
    rw (p.1, p.2)
    (converts-refused a.signed a.input.now a.out.now _ _ _ w _ c.in_err-walk.was _
    (back_none a.out.now c.walk.new.out w.long))
