-- Field j of the eight is field k of all, and so on. Assumes nothing.
use Rattle.format.proofs.Common.{refl, ◌∙◌, ◌+◌, arith, length-set, to_z-of_z, w64, sfits_of}
use Rattle.format.proofs.Below.{below_all}
use Rattle.util.proofs.Window.{laid-row}
use Rattle.util.proofs.packed.four.Goals as goal

pub returns : goal.returns
returns c n o h g t =
    let a = c.args in
    let p = c.requires in
    let s = a.s.now in
    let b = below_all 256 s (λ i. (c.type_inv.s i).fits) in
    let one = laid-row a.w n a.k (a.k + 1) _ _ s o a.out.now b g (omega arith) (omega arith)
    (to_z-of_z {w = w64} (sfits_of c.row_of_eight-r0.type_inv) ∙ c.row_of_eight-r0.ensures) (omega arith) refl t in
    let two = laid-row a.w n (a.k + 1) (a.k + 2) _ _ s o _ b g (omega arith) (simp length-set (omega arith))
    (to_z-of_z {w = w64} (sfits_of c.row_of_eight-r1.type_inv) ∙ c.row_of_eight-r1.ensures) (omega arith) (omega arith) one in
    let three = laid-row a.w n (a.k + 2) (a.k + 3) _ _ s o _ b g (omega arith) (simp length-set (omega arith))
    (to_z-of_z {w = w64} (sfits_of c.row_of_eight-r2.type_inv) ∙ c.row_of_eight-r2.ensures) (omega arith) (omega arith) two in
    laid-row a.w n (a.k + 3) (a.k + 4) _ _ s o _ b g (omega arith) (simp length-set (omega arith))
    (to_z-of_z {w = w64} (sfits_of c.row_of_eight-r3.type_inv) ∙ c.row_of_eight-r3.ensures) (omega arith) (omega arith) three

pub bounds-out-k-2 : goal.bounds-out-k-2
bounds-out-k-2 c = simp length-set (omega arith)

pub bounds-out-k-3 : goal.bounds-out-k-3
bounds-out-k-3 c = simp length-set (omega arith)

pub bounds-out-k-4 : goal.bounds-out-k-4
bounds-out-k-4 c = simp length-set (omega arith)
