-- The widths are tested, and else the answer is the body's. Assumes nothing.
use native.Mathlib.Omega.{arith}
use Prim.Native.Nat.{ℕ, ◌+◌}
use mathlib.Core.Path.{◌≡◌, ap, ◌∙◌}
use Rattle.format.specs.Fields.{width, least_width}
use Rattle.format.proofs.Rows.{width-le}
use Rattle.rle_v2.proofs.PatchedRun.{refused-2}
use Rattle.rle_v2.proofs.patched_base.by_widths.Goals as goal

pub overflow_add-patch : goal.overflow_add-patch
overflow_add-patch c = omega (arith, c.bits_of-patch.ensures, width-le c.args.h.patch, c.requires.1.gap)

pub returns-then-patch-h-gt64 : goal.returns-then-patch-h-gt64
returns-then-patch-h-gt64 c =
    let sum-2 : (let a = c.args in c.bits_of-patch.result + a.h.gap ≡ width a.h.patch + a.h.gap) = ap (λ (x : ℕ). x + c.args.h.gap) c.bits_of-patch.ensures in
    let a = c.args in
    rw c.new.ensures (refused-2 a.input.now a.at.bytes a.h.code a.h.rows.rows a.h.base a.h.patch a.h.gap a.h.entries (rw (sum-2) at c.if-patch-h-gt64.true))

pub body-requires : goal.body-requires
body-requires c =
    let sum-2 : (let a = c.args in c.bits_of-patch.result + a.h.gap ≡ width a.h.patch + a.h.gap) = ap (λ (x : ℕ). x + c.args.h.gap) c.bits_of-patch.ensures in (
      c.requires.0,
      c.requires.1,
      record { bits_is = c.bits_of-bits.ensures; patch-is = c.bits_of-patch.ensures; entry-is = c.entry_width-entry.ensures ∙ ap least_width (sum-2) },
      c.if-patch-h-gt64.false,
    )
