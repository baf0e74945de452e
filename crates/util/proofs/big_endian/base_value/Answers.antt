-- Below the sign's bit the number itself, and else minus the magnitude. Assumes nothing.
use Rattle.format.proofs.Common.{◌∙◌, arith}
use Rattle.util.proofs.BigEndian.{sign_bit, base_plus, base_negated, number-bits}
use Rattle.util.proofs.big_endian.base_value.Goals as goal

pub returns-then-x-sign : goal.returns-then-x-sign
returns-then-x-sign c =
    let a = c.args in
    let e = c.read-x.ensures in
    let b = sign_bit a.n (omega arith) (omega arith) in
    e ∙ base_plus a.n (omega arith) (omega arith) a.s.now a.at (omega arith) (rw (e, b) at c.if-x-sign.true)

pub returns-else-x-sign : goal.returns-else-x-sign
returns-else-x-sign c =
    let a = c.args in
    let e = c.read-x.ensures in
    let b = sign_bit a.n (omega arith) (omega arith) in
    let l = number-bits a.s.now a.at (λ j. (c.type_inv.s j).fits) a.n (omega arith) in
    base_negated a.n (omega arith) (omega arith) a.s.now a.at (omega arith) c.read-x.result c.wrapping_neg.result e
    (rw b at c.if-x-sign.false) (rw e l) (omega arith) (rw b at c.wrapping_neg.ensures)
