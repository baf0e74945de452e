-- All of a short slice holds the bits, or eight bytes do. Assumes nothing.
use Rattle.format.proofs.Common.{sym, ◌∙◌, zero-add, arith, length}
use Rattle.format.proofs.Below.{below_all}
use Rattle.util.proofs.Window.{window}
use Rattle.util.proofs.packed.bits_from.Goals as goal

pub returns-then-len-lt8 : goal.returns-then-len-lt8
returns-then-len-lt8 c =
    let a = c.args in
    let s = a.s.now in
    let bytes = below_all 256 s (λ k. (c.type_inv.s k).fits) in
    c.cut.ensures
    ∙ rw c.bytes.ensures
    (sym (rw zero-add at (window s 0 (length s) a.p a.w bytes (omega arith) (omega arith) (omega arith))))

pub returns : goal.returns
returns c =
    let a = c.args in
    let s = a.s.now in
    let bytes = below_all 256 s (λ k. (c.type_inv.s k).fits) in
    let i = c.window-i.result in
    let h = c.window-i.ensures in
    c.cut-2.ensures
    ∙ rw c.word.ensures (sym (window s i 8 a.p a.w bytes h.2 h.0 h.1))
