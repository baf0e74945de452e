-- Each test that fails returns its number with every place as it was; if none does, all groups are written. Assumes nothing.
use mathlib.Core.Path.{◌≡◌, sym, ◌∙◌}
use native.Mathlib.Omega.{arith}
use mathlib.Core.Bool.{true}
use lib.ListN.{length}
use borrow.Author.Tests.{ltb-false}
use mir.Facts.{to_z-of_z}
use Rattle.rescue.specs.Rescue.{positions, in_order}
use Rattle.rescue.proofs.RescueCalls.{other-length, no-order, few-places, all_said, was-refused, was-written}
use Rattle.format.proofs.Common.{w64}
use Rattle.rescue.proofs.rescue.Goals as goal

pub returns-then-runs-skips : goal.returns-then-runs-skips
returns-then-runs-skips c = rw c.refused.ensures (was-refused (other-length _ _ _ _ _ _ _ _ c.then-runs-skips.either))

pub returns-then-not-in_order : goal.returns-then-not-in_order
returns-then-not-in_order c =
    let fails = sym c.in_order.ensures ∙ c.if-not-in_order.true in
    rw c.refused-then-not-in_order.ensures (was-refused (no-order _ _ _ _ _ _ _ _ (omega arith) (omega arith) fails))

pub returns-then-too_many : goal.returns-then-too_many
returns-then-too_many c =
    let ordered = sym c.in_order.ensures ∙ c.if-not-in_order.false in
    rw c.refused-then-too_many.ensures
    (was-refused (few-places _ _ _ _ _ _ _ _ (omega arith) (omega arith) ordered (rw c.too_many.ensures at c.then-too_many.either)))

pub rescue_all-requires : goal.rescue_all-requires
rescue_all-requires c =
    record {
      skips-long = omega arith;
      counts-long = omega arith;
      rows_fit = ltb-false _ _ (sym c.too_many.ensures ∙ c.if-too_many.false);
      marks-fit = omega arith;
    }

pub returns : goal.returns
returns c =
    let ordered : (let a = c.args in
    in_order (length a.input.now) (positions a.runs.now a.skips.now) ≡ true) = sym c.in_order.ensures ∙ c.if-not-in_order.false in
    was-written
    (all_said _ _ _ _ _ _ _ _ (omega arith) (omega arith) (ordered) (sym c.too_many.ensures ∙ c.if-too_many.false) (omega arith))
    (rw (to_z-of_z {w = w64} c.ranges.fill) at c.rescue_all.ensures)
