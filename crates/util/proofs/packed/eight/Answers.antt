-- Four and four. Assumes nothing.
use Rattle.format.proofs.Common.{◌≡◌, ◌+◌, arith}
use Rattle.util.proofs.packed.eight.Goals as goal

pub four-requires-2 : goal.four-requires-2
four-requires-2 c =
    let p = c.requires in
    record { width = p.width; j_bound = (omega arith, p.b_value.1, p.b_value.2); x_value = c.word-x.ensures; w_value = (omega arith, omega (arith, c.four.auto.out)) }

pub returns : goal.returns
returns c n o h g t =
    let a = c.args in
    let e : a.k + 4 + 4 ≡ a.k + 8 = omega arith in
    rw e at (c.four-2.ensures n o (omega arith) g (c.four.ensures n o (omega arith) g t))
