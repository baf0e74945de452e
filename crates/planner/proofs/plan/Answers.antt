-- What is proposed is passed on where it is sound, and else the direct runs are proposed. Assumes nothing.
use Prim.Native.Nat.{◌<◌}
use native.Mathlib.Omega.{arith}
use lib.ListN.{length}
use Rattle.planner.specs.Plan.{no_rows}
use Rattle.planner.proofs.Proposing.{keeps, falls-back}
use mathlib.Core.Path.{◌≡◌, sym, ◌∙◌}
use mathlib.Core.Bool.{Bool, false}
use mathlib.Core.List.{List}
use lib.Dec.{eqb}
use lib.IntN.{ℤ}
use borrow.Author.Tests.{eqb-true, eqb-false}
use Rattle.planner.proofs.plan.Goals as goal

has_rows : (rows : List ℤ) {b : Bool} → b ≡ eqb (length rows) 0 → b ≡ false → 0 < length rows
has_rows rows e f = omega (arith, eqb-false (length rows) 0 (sym e ∙ f))

pub returns-then-n-gt0 : goal.returns-then-n-gt0
returns-then-n-gt0 c =
    let some-rows : 0 < length c.args.rows.now = has_rows c.args.rows.now c.is_empty.ensures c.if-is_empty.false in
    keeps _ _ _ _ (some-rows) c.if-n-gt0.true c.sound-n.ensures

pub returns : goal.returns
returns c =
    let some-rows : 0 < length c.args.rows.now = has_rows c.args.rows.now c.is_empty.ensures c.if-is_empty.false in
    falls-back _ _ _ _ (some-rows) (c.propose.ensures _)

pub returns-then-is_empty : goal.returns-then-is_empty
returns-then-is_empty c = no_rows (eqb-true (length c.args.rows.now) 0 (sym c.is_empty.ensures ∙ c.if-is_empty.true))
