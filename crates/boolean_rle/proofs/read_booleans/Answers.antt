-- By what the first pass finds: a cut is refused with its field, and if all runs are there, so are the booleans. Assumes nothing.
use mathlib.Core.Path.{◌≡◌}
use Prim.Native.Nat.{max}
use native.Mathlib.Omega.{arith}
use borrow.Author.Rules.{rules}
use Rattle.std.proofs.lemmas.Result.{err_from_is_err_and}
use Rattle.format.specs.Answers.{cutting}
use Rattle.boolean_rle.proofs.Placed.{was-err, was-ok}
use Rattle.boolean_rle.proofs.SecondPass.{reads-cut, reads-8, reads-room, reads_all}
use Rattle.boolean_rle.proofs.read_booleans.Goals as goal

pub returns-in_err-consumed : goal.returns-in_err-consumed
returns-in_err-consumed c =
    let a = c.args in
    let p = err_from_is_err_and c.from_residual.result c.from_residual.ensures.1 in
    let m = was-err _ c.span_from.ensures c.map_err.ensures.cases c.in_err-consumed.was in
    let refusal-is : c.in_err-consumed.field-0.0 ≡ cutting m.0.number a.at.bytes (max a.at.bytes m.0.field) = search rules in
    rw (p.1, p.2, refusal-is) (reads-cut a.input.now a.at.bytes a.n.rows a.out.now m.0 m.1)

pub returns-then-out-rows : goal.returns-then-out-rows
returns-then-out-rows c =
    let a = c.args in
    let whole = was-ok _ c.span_from.ensures c.map_err.ensures.cases c.in_ok-consumed.was in
    rw c.new.ensures (reads-8 a.input.now a.at.bytes a.n.rows a.out.now _ whole c.if-out-rows.true)

pub put_booleans-requires : goal.put_booleans-requires
put_booleans-requires c =
    let a = c.args in
    let whole = was-ok _ c.span_from.ensures c.map_err.ensures.cases c.in_ok-consumed.was in
    let room = reads-room a.input.now a.at.bytes a.n.rows a.out.now _ whole in
    (omega arith, omega arith, omega arith)

pub returns : goal.returns
returns c =
    let a = c.args in
    let whole = was-ok _ c.span_from.ensures c.map_err.ensures.cases c.in_ok-consumed.was in
    rw c.new-2.ensures (reads_all a.input.now a.at.bytes a.n.rows a.out.now _ whole _ c.if-out-rows.false c.put_booleans.ensures)
