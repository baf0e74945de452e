-- The code makes the definition's two tests in the definition's order, and lays the column after both. Assumes nothing.
use mathlib.Core.Path.{refl, ap}
use native.Mathlib.Omega.{arith}
use mir.Facts.{to_z-of_z}
use Rattle.std.specs.Prelude.{Err}
use Rattle.present.proofs.Calls.{leaves-21, leaves-8, lays}
use Rattle.format.proofs.Common.{w64}
use Rattle.present.proofs.spread.Goals as goal

pub returns-then-there-rows : goal.returns-then-there-rows
returns-then-there-rows c =
    leaves-21 _ _ _ _ _ (λ e. omega (arith, c.count_present-there.ensures, c.if-there-rows.true)) (ap Err c.new.ensures)

pub returns-then-out-flags : goal.returns-then-out-flags
returns-then-out-flags c =
    leaves-8 _ _ _ _ _ (omega (arith, c.count_present-there.ensures, c.if-there-rows.false)) c.if-out-flags.true (ap Err c.new-then-out-flags.ensures)

pub returns : goal.returns
returns c =
    lays _ _ _ _ _ (omega (arith, c.count_present-there.ensures, c.if-there-rows.false)) c.if-out-flags.false _
    (rw (to_z-of_z {w = w64} c.ranges.fill) at c.lay.ensures) refl
