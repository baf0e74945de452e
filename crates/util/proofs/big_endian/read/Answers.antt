-- The first bytes of a word are its highest. Assumes nothing.
use Rattle.format.proofs.Common.{arith}
use Rattle.util.proofs.Window.{of_word}
use Rattle.util.proofs.big_endian.read.Goals as goal

pub returns : goal.returns
returns c =
    let a = c.args in
    rw c.word.ensures (of_word a.s.now a.at a.n (λ k. (c.type_inv.s k).fits) (omega arith) (omega arith))
