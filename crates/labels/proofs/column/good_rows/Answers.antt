use Prim.Native.Nat.{ℕ}
use mathlib.Core.Path.{sym, ◌∙◌}
use native.Mathlib.Omega.{arith}
use mathlib.Core.List.{List}
use lib.ListN.{drop, get_or}
use Rattle.present.proofs.SpreadLoop.{at_most_one}
use Rattle.labels.proofs.ColumnWalk.{good-next, good-bad, good_none}
use Rattle.labels.proofs.column.good_rows.Goals as goal

pub returns-then-not-has_number : goal.returns-then-not-has_number
returns-then-not-has_number c =
    let a = c.args in
    let l = c.loop-i in
    let bad = good-bad a.lengths.now a.flags.now a.numbers.now l.i l.next (omega arith)
    (sym c.has_number.ensures ∙ c.if-not-has_number.true) in
    omega (arith, l.invariant.2, bad)

pub overflow_add-next : goal.overflow_add-next
overflow_add-next c =
    let flags : List ℕ = c.args.flags.now in
    omega (arith, c.rows_for-next.ensures, at_most_one (get_or (flags) c.loop-i.i 0))

pub loop-i-preserved : goal.loop-i-preserved
loop-i-preserved c =
    let flags : List ℕ = c.args.flags.now in
    let a = c.args in
    let l = c.loop-i in
    let passed = good-next a.lengths.now (flags) a.numbers.now l.i l.next (omega arith)
    (sym c.has_number.ensures ∙ c.if-not-has_number.false) in
    rw c.rows_for-next.ensures (omega (arith, l.invariant.2, passed, at_most_one (get_or (flags) l.i 0)))

pub returns : goal.returns
returns c =
    let a = c.args in
    let l = c.loop-i in
    omega (arith, l.invariant.2, good_none a.lengths.now a.flags.now (drop l.next a.numbers.now) l.i c.loop-i-test.false)
