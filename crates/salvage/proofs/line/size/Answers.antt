-- A line's length is that of its two numbers and of the words of its verdict, which the branch decides. Assumes nothing.
use native.Mathlib.Omega.{arith}
use Rattle.text.proofs.Texts.{decimal-length}
use Rattle.salvage.proofs.Telling.{kept-long, replaced-long}
use Rattle.salvage.proofs.line.size.Goals as goal

pub overflow_add-digits : goal.overflow_add-digits
overflow_add-digits c =
    let a = c.args in
    omega (arith, c.decimal_size-first.ensures, c.decimal_size-second.ensures, decimal-length a.number, decimal-length a.rows.rows)

pub overflow_add-result : goal.overflow_add-result
overflow_add-result c =
    let a = c.args in
    omega (arith, c.decimal_size-first.ensures, c.decimal_size-second.ensures, decimal-length a.number, decimal-length a.rows.rows)

pub returns-then-keep : goal.returns-then-keep
returns-then-keep c =
    let a = c.args in
    omega (arith, c.decimal_size-first.ensures, c.decimal_size-second.ensures, kept-long a.keep a.number a.rows.rows c.if-keep.true)

pub overflow_add-result-2 : goal.overflow_add-result-2
overflow_add-result-2 c =
    let a = c.args in
    omega (arith, c.decimal_size-first.ensures, c.decimal_size-second.ensures, decimal-length a.number, decimal-length a.rows.rows)

pub returns : goal.returns
returns c =
    let a = c.args in
    omega (arith, c.decimal_size-first.ensures, c.decimal_size-second.ensures, replaced-long a.keep a.number a.rows.rows c.if-keep.false)
