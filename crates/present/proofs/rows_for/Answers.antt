-- A flag is below 256, so with 255 more it passes 256 exactly if it is not 0. Assumes nothing.
use mathlib.Core.Path.{◌≡◌, refl}
use Prim.Native.Nat.{ℕ, ◌+◌, ◌/◌, ◌<◌}
use native.Mathlib.Omega.{arith}
use mathlib.Core.Bool.{Bool, true, false, not}
use lib.Dec.{eqb}
use borrow.Author.Tests.{eqb-true, eqb-false}
use Rattle.format.specs.Fields.{pick}
use Rattle.present.specs.Present.{rows_for}
use Rattle.present.proofs.rows_for.Goals as goal

passes : (flag : ℕ) → flag < 256 → (flag + 255) / 256 ≡ rows_for flag
passes flag h = go (eqb flag 0) refl
  where
    go : (none : Bool) → eqb flag 0 ≡ none → (flag + 255) / 256 ≡ pick (not none) 1 0
    go true e = omega (arith, eqb-true flag 0 e)
    go false e = omega (arith, eqb-false flag 0 e)

pub returns : goal.returns
returns c = passes c.args.flag (omega (arith, c.ranges.flag))
