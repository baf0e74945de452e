-- The limit of a patch, with the case of 64 bits. Assumes nothing.
use mathlib.Core.Path.{◌≡◌, sym, ◌∙◌}
use Prim.Native.Nat.{◌*◌, ◌-◌, ◌^◌, ◌%◌, ◌<◌}
use native.Mathlib.Nat.{one-mul, mod-eq_of_lt}
use native.Mathlib.Omega.{arith}
use lib.Pow.{pow-lt}
use Rattle.format.proofs.RunComplete.{limit_is}
use borrow.Author.Tests.{eq-eqb}
use Rattle.rle_v2.proofs.patch_list.patch_limit.Goals as goal

pub returns-else-width-eq64 : goal.returns-else-width-eq64
returns-else-width-eq64 c =
    let w = c.args.width in
    let l : 2 ^ (64 - w) < 2 ^ 64 = pow-lt {i = 64 - w} {j = 64} (omega arith) in
    let e : 1 * 2 ^ (64 - w) % 2 ^ 64 ≡ 2 ^ (64 - w) = rw one-mul (mod-eq_of_lt l) in
    e ∙ sym (limit_is w)

pub returns-then-width-eq64 : goal.returns-then-width-eq64
returns-then-width-eq64 c = rw (eq-eqb _ _ c.if-width-eq64.true)
