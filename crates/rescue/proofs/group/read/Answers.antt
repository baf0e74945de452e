-- A group of no rows ends where it begins; for any other the call of batches says where it ends, and its rows are in the places.
-- Assumes nothing.
use mathlib.Core.Path.{◌≡◌, refl, ◌∙◌}
use Prim.Native.Nat.{◌<◌}
use native.Mathlib.Omega.{arith}
use lib.ListN.{length}
use borrow.Author.Tests.{eq-eqb, ne_eqb}
use Rattle.format.proofs.Below.{below_all}
use Rattle.std.proofs.lemmas.Bool.Decides.{nat_tests}
use Rattle.std.specs.Prelude.{Some, None, Ok, Err}
use Rattle.rescue.proofs.GroupReads.{read_none, read_some}
use Rattle.rescue.proofs.group.read.Goals as goal

-- ---- no places
pub returns-then-is_empty : goal.returns-then-is_empty
returns-then-is_empty c =
    let a = c.args in
    read_none a.input.now a.from a.to a.signed a.out.now (below_all 256 a.input.now (λ i. (c.type_inv.input i).fits)) (grind (arith, nat_tests)) _ c.same.ensures

-- ---- all rows, fewer rows, or none
pub returns-then-rows-out : goal.returns-then-rows-out
returns-then-rows-out c =
    let a = c.args in
    let b = c.in-Ok-Some.read in
    let w : c.read_rows.result ≡ Ok (Some b) = cc in
    let n : 0 < length a.out.now = grind (arith, nat_tests) in
    read_some a.input.now a.from a.to a.signed a.out.now (below_all 256 a.input.now (λ i. (c.type_inv.input i).fits)) n
    c.read_rows.ensures (Ok (Some b)) w _
    (c.same-then-rows-out.ensures ∙ rw (eq-eqb b.rows.rows (length a.out.now) (omega arith)))

pub returns-else-rows-out : goal.returns-else-rows-out
returns-else-rows-out c =
    let a = c.args in
    let b = c.in-Ok-Some.read in
    let w : c.read_rows.result ≡ Ok (Some b) = cc in
    let n : 0 < length a.out.now = grind (arith, nat_tests) in
    read_some a.input.now a.from a.to a.signed a.out.now (below_all 256 a.input.now (λ i. (c.type_inv.input i).fits)) n
    c.read_rows.ensures (Ok (Some b)) w _ (rw (ne_eqb b.rows.rows (length a.out.now) (λ e. omega arith)) (ne_eqb b.rows.rows (length c.read_rows.new.out) (λ e. omega arith)))

pub returns-in-Ok-None : goal.returns-in-Ok-None
returns-in-Ok-None c =
    let a = c.args in
    let w : c.read_rows.result ≡ Ok None = cc in
    let n : 0 < length a.out.now = grind (arith, nat_tests) in
    read_some a.input.now a.from a.to a.signed a.out.now (below_all 256 a.input.now (λ i. (c.type_inv.input i).fits)) n
    c.read_rows.ensures (Ok None) w _ refl

pub returns-in-Err : goal.returns-in-Err
returns-in-Err c =
    let a = c.args in
    let n : 0 < length a.out.now = grind (arith, nat_tests) in
    read_some a.input.now a.from a.to a.signed a.out.now (below_all 256 a.input.now (λ i. (c.type_inv.input i).fits)) n
    c.read_rows.ensures (Err c.in-Err.field-0) c.in-Err.is _ refl
