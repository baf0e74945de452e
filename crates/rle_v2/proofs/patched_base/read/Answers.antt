-- The patched base reader meets its contract: what was found is laid down where there is room. Assumes nothing.
use Rattle.std.specs.Prelude.{Err}
use Rattle.std.proofs.lemmas.Result.{err_from_is_err_and}
use mathlib.Core.Path.{refl}
use Rattle.format.proofs.Reading.{gives_none}
use Rattle.rle_v2.proofs.PatchedRun.{run}
use Rattle.rle_v2.proofs.PatchedFound.{passed-8, passed-read, passes, ready}
use Rattle.rle_v2.proofs.patched_base.read.Goals as goal

pub returns-then-out-rows : goal.returns-then-out-rows
returns-then-out-rows c =
    let a = c.args in
    let f = c.in_ok-f.ensures in
    rw c.new.ensures (passed-8 a.input.now a.at.bytes _ _ _ _ (passes a.input.now a.at.bytes _ _ f.heads f.list) a.signed a.out.now c.if-out-rows.true)

pub put-requires : goal.put-requires
put-requires c =
    let a = c.args in
    let f = c.in_ok-f.ensures in
    (ready a.input.now a.at.bytes _ _ f.heads f.list, c.if-out-rows.false)

pub returns : goal.returns
returns c =
    let a = c.args in
    let f = c.in_ok-f.ensures in
    rw c.new-2.ensures (passed-read a.input.now a.at.bytes _ _ _ _ (passes a.input.now a.at.bytes _ _ f.heads f.list) a.signed a.out.now _ _ c.if-out-rows.false refl c.put.ensures)

pub returns-in_err-f : goal.returns-in_err-f
returns-in_err-f c =
    let a = c.args in
    let p = err_from_is_err_and c.from_residual.result c.from_residual.ensures.1 in
    rw (p.1, p.2) (gives_none a.at.bytes _ a.signed (run a.input.now a.at.bytes) a.out.now (Err _) tt c.in_err-f.ensures)
