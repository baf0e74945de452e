use Prim.Native.Nat.{◌<◌, ◌-◌}
use mathlib.Core.Path.{◌≡◌, ap, ◌∙◌}
use native.Mathlib.Omega.{arith}
use lib.ListN.{length, get_or, take, drop, length-drop}
use lib.Seq.{length-take-le}
use lib.IntN.{ℤ}
use mir.Syntax.{w64}
use mir.Val.{to_z, of_z}
use mir.Facts.{to_z-of_z}
use borrow.Author.Rules.{sfits_of}
use Rattle.format.specs.Fields.{pick}
use Rattle.present.specs.Present.{is_there}
use Rattle.present.proofs.SpreadLoop.{row_at, row_read, flag-left, so-far-next, so-far-filled}
use Rattle.present.proofs.lay.Goals as goal

pub loop-next-preserved : goal.loop-next-preserved
loop-next-preserved c =
    let a = c.args in
    let l = c.loop-next in
    let has-flag : l.i < length a.flags.now = flag-left _ a.flags.now a.rows.now a.out.now l.invariant (omega (arith, c.requires.0)) in
    let fill = to_z w64 (of_z w64 a.fill) in
    let row : to_z w64 (of_z w64 c.row_or_fill.result) ≡ row_at fill a.flags.now a.rows.now l.next l.i
    = to_z-of_z {w = w64} (sfits_of c.row_or_fill.type_inv)
    ∙ c.row_or_fill.ensures
    ∙ ap (λ (z : ℤ). pick (is_there (get_or a.flags.now l.i 0)) z fill) (to_z-of_z {w = w64} (sfits_of c.row_or_fill-arg-1.given))
    ∙ row_read fill a.flags.now a.rows.now l.next l.i _ (omega arith) in
    rw (c.rows_for-next.ensures, row)
    (so-far-next fill a.flags.now a.rows.now a.out.now l.invariant has-flag c.requires.1)

pub loop-next-smaller : goal.loop-next-smaller
loop-next-smaller c =
    let a = c.args in
    omega (arith, flag-left _ a.flags.now a.rows.now a.out.now c.loop-next.invariant (omega (arith, c.requires.0)))

pub bounds-flags-i : goal.bounds-flags-i
bounds-flags-i c =
    let a = c.args in
    flag-left _ a.flags.now a.rows.now a.out.now c.loop-next.invariant (omega (arith, c.requires.0))

pub bounds-out-i : goal.bounds-out-i
bounds-out-i c =
    let a = c.args in
    omega (arith, flag-left _ a.flags.now a.rows.now a.out.now c.loop-next.invariant (omega (arith, c.requires.0)), c.loop-next.invariant.long, c.requires.1)

pub returns : goal.returns
returns c =
    let a = c.args in
    let l = c.loop-next in
    let part : length (take (length a.flags.now - l.i) (drop l.i l.out)) ≡ length a.flags.now - l.i =
    length-take-le _ _ (rw (length-drop l.i l.out) (omega (arith, l.invariant.long, c.requires.1))) in
    rw (to_z-of_z {w = w64} c.ranges.fill) at
    (so-far-filled _ a.flags.now a.rows.now a.out.now l.invariant c.loop-next-test.false
    (rw part at (c.fill.ensures.after (λ y e. e))))
