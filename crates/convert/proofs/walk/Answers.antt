-- Each turn converts one run more, or ends with what the definition says of the rest. Assumes nothing.
use Rattle.std.proofs.lemmas.Result.{err_from_is_err_and}
use borrow.Author.Tests.{eqb-true}
use Rattle.format.proofs.Common.{◌∙◌, sym, length, arith, drop_of_length-le, rules}
use Rattle.format.proofs.Below.{below_all}
use Rattle.format.proofs.Runs.{layout-pos}
use Rattle.convert.specs.Turn.{Turned}
use Rattle.convert.proofs.Walks.{along-first, along-next, along-end, along-refused, counted-le, within}
use Rattle.convert.proofs.walk.Goals as goal

pub returns-then-is_empty : goal.returns-then-is_empty
returns-then-is_empty c =
    let a = c.args in
    let none = eqb-true (length a.input.now) 0 (sym c.is_empty.ensures ∙ c.if-is_empty.true) in
    rw c.finish.ensures
    (along-end a.signed a.input.now a.room.bytes a.out.now a.out.now 0 0 _ (along-first _ _ _ _) (drop_of_length-le a.input.now {i = 0} (omega (arith, none))))

pub loop-t-init : goal.loop-t-init
loop-t-init c = along-first _ _ _ _

pub returns-in_err-t : goal.returns-in_err-t
returns-in_err-t c =
    let a = c.args in
    let l = c.loop-t in
    let p = err_from_is_err_and c.from_residual.result c.from_residual.ensures.1 in
    rw (p.1, p.2)
    (along-refused a.signed a.input.now a.room.bytes a.out.now l.out l.p l.altered l.at l.invariant _
    (below_all 256 a.input.now (search rules))
    c.in_err-t.ensures)

pub lay-at-requires : goal.lay-at-requires
lay-at-requires c =
    let a = c.args in
    let l = c.loop-t in
    let turned : Turned a.signed a.input.now l.p c.convert_run.new.run c.in-Some.t = rw c.in-Some.is at c.in_ok-t.ensures in
    (omega (arith, turned.small), within _ _ _ _ l.at l.invariant.fill)

pub overflow_add-altered : goal.overflow_add-altered
overflow_add-altered c =
    let a = c.args in
    let l = c.loop-t in
    let turned : Turned a.signed a.input.now l.p c.convert_run.new.run c.in-Some.t = rw c.in-Some.is at c.in_ok-t.ensures in
    omega (arith, c.count-altered.ensures, counted-le c.in-Some.t.odd, l.invariant.few, turned.within, turned.taken_is, layout-pos turned.which)

pub overflow_add-p : goal.overflow_add-p
overflow_add-p c =
    let a = c.args in
    let l = c.loop-t in
    let turned : Turned a.signed a.input.now l.p c.convert_run.new.run c.in-Some.t = rw c.in-Some.is at c.in_ok-t.ensures in
    omega (arith, turned.within)

pub loop-t-smaller : goal.loop-t-smaller
loop-t-smaller c =
    let a = c.args in
    let l = c.loop-t in
    let turned : Turned a.signed a.input.now l.p c.convert_run.new.run c.in-Some.t = rw c.in-Some.is at c.in_ok-t.ensures in
    omega (arith, turned.within, turned.taken_is, layout-pos turned.which)

pub loop-t-preserved : goal.loop-t-preserved
loop-t-preserved c =
    let a = c.args in
    let l = c.loop-t in
    let turned : Turned a.signed a.input.now l.p c.convert_run.new.run c.in-Some.t = rw c.in-Some.is at c.in_ok-t.ensures in
    rw c.count-altered.ensures
    (along-next a.signed a.input.now a.room.bytes a.out.now l.out l.p l.altered l.at l.invariant _ _ _ _ turned c.lay-at.ensures)

pub shape_of-out-in_err-t : goal.shape_of-out-in_err-t
shape_of-out-in_err-t c = c.loop-t.invariant.long

pub returns : goal.returns
returns c =
    let a = c.args in
    let l = c.loop-t in
    rw c.finish-2.ensures
    (along-end a.signed a.input.now a.room.bytes a.out.now l.out l.p l.altered l.at l.invariant
    (rw c.in_default.is at c.in_ok-t.ensures))

pub shape_of-out : goal.shape_of-out
shape_of-out c = c.loop-t.invariant.long
