-- A direct run that is cut by its measure, and any other run by the run reader. Assumes nothing.
use Rattle.std.specs.Prelude.{Err}
use Rattle.std.proofs.lemmas.Result.{err_from_is_err_and}
use Rattle.format.proofs.Reading.{gives_none}
use borrow.Author.Rules.{rules}
use Rattle.rle_v2.proofs.ByKind.{is-direct}
use Rattle.rle_v2.proofs.DirectRun.{run}
use Rattle.rle_v2.proofs.read_gathered.Goals as goal

pub returns-in_err-measure : goal.returns-in_err-measure
returns-in_err-measure c =
    let a = c.args in
    let p = err_from_is_err_and c.from_residual.result c.from_residual.ensures.1 in
    rw (p.1, p.2, is-direct a.input.now 0 (search rules) c.if-input-eq1.true)
    (gives_none 0 _ a.signed (run a.input.now 0) a.out.now (Err _) tt c.in_err-measure.ensures)
