-- Each test that fails is the refusal that the definition gives first; if none does, what is written is `write_all`'s promise. Assumes nothing.
use mathlib.Core.Path.{sym, ◌∙◌}
use native.Mathlib.Omega.{arith}
use mir.Facts.{to_z-of_z}
use Rattle.format.proofs.Tests.{true-T}
use Rattle.salvage.proofs.Setting.{other-lengths, wrong-starts, no_room, was-refused}
use Rattle.format.proofs.Common.{w64}
use Rattle.salvage.proofs.salvage.Goals as goal

pub returns-then-starts-counts : goal.returns-then-starts-counts
returns-then-starts-counts c =
    let a = c.args in
    was-refused a.signed a.fill a.input.now a.starts.now a.counts.now 17
    (other-lengths a.signed a.fill a.input.now a.starts.now a.counts.now _ _ (λ e. omega (arith, e))) c.refused.ensures

pub returns-then-not-starts_right : goal.returns-then-not-starts_right
returns-then-not-starts_right c =
    let a = c.args in
    was-refused a.signed a.fill a.input.now a.starts.now a.counts.now 17
    (wrong-starts a.signed a.fill a.input.now a.starts.now a.counts.now _ _
    (sym c.starts_right.ensures ∙ c.if-not-starts_right.true)) c.refused-then-not-starts_right.ensures

pub invariant_of-groups : goal.invariant_of-groups
invariant_of-groups c =
    record { right = record { lengths = omega arith; right = true-T _ (sym c.starts_right.ensures ∙ c.if-not-starts_right.false) } }

pub returns-then-not-has_room : goal.returns-then-not-has_room
returns-then-not-has_room c =
    let a = c.args in
    was-refused a.signed a.fill a.input.now a.starts.now a.counts.now 8
    (no_room a.signed a.fill a.input.now a.starts.now a.counts.now _ _
    (record { lengths = omega arith; right = true-T _ (sym c.starts_right.ensures ∙ c.if-not-starts_right.false) })
    (sym (rw (to_z-of_z {w = w64} c.ranges.fill) at c.has_room.ensures) ∙ c.if-not-has_room.true)) c.refused-then-not-has_room.ensures

pub write_all-requires : goal.write_all-requires
write_all-requires c = rw c.has_room.ensures at c.if-not-has_room.false

pub returns : goal.returns
returns c = rw (to_z-of_z {w = w64} c.ranges.fill) at c.write_all.ensures
