-- No length is below 0, so the cast is the length, and no sum passes the block. Assumes nothing.
use Prim.Native.Nat.{ℕ, ◌+◌, ◌<◌}
use mathlib.Core.Path.{◌≡◌, refl, sym, ◌∙◌}
use native.Mathlib.Omega.{arith}
use native.Mathlib.Numerals.{add-one}
use mathlib.Core.Bool.{true}
use mathlib.Core.List.{List}
use lib.IntN.{ℤ, pos}
use lib.ListN.{length, take, get_or}
use lib.Seq.{length-take-le}
use mir.Syntax.{w64}
use mir.Val.{SFits}
use Rattle.std.proofs.Common.{rules}
use Rattle.std.proofs.lemmas.List.{get_or-take}
use Rattle.labels.specs.Labels.{add_up, start_of, size_of, total}
use Rattle.labels.proofs.Labels.{start-suc}
use Rattle.labels.proofs.Columns.{adds-start, cast_is, cast_fits, size_in}
use Rattle.labels.proofs.start_of.Goals as goal

-- the entry of the part that is lent
size_here : (l : List ℤ) (b : List ℕ) (k i : ℕ) → add_up l b ≡ true → i < k → pos (size_of l i) ≡ get_or (take k l) i (pos 0)
size_here l b k i a h = size_in l (length b) i a ∙ sym (get_or-take k l i (pos 0) h)

pub loop-length-init : goal.loop-length-init
unfolding start_of total
loop-length-init c = (omega arith, refl)

pub overflow_cast-sum : goal.overflow_cast-sum
overflow_cast-sum c =
    let a = c.args in
    let l = c.loop-length in
    let h : l.length-index < a.k = omega (arith, length-take-le a.k a.lengths.now c.requires.1) in
    let f : SFits w64 (get_or (take a.k a.lengths.now) l.length-index (pos 0)) = search rules in
    cast_fits _ f (size_here a.lengths.now a.block.now a.k l.length-index c.requires.0 h)

pub overflow_add-sum : goal.overflow_add-sum
overflow_add-sum c =
    let a = c.args in
    let l = c.loop-length in
    let h : l.length-index < a.k = omega (arith, length-take-le a.k a.lengths.now c.requires.1) in
    let f : SFits w64 (get_or (take a.k a.lengths.now) l.length-index (pos 0)) = search rules in
    rw (cast_is _ f (size_here a.lengths.now a.block.now a.k l.length-index c.requires.0 h))
    (omega (arith, l.invariant.1, rw (← add-one l.length-index) at (start-suc a.lengths.now l.length-index), adds-start a.lengths.now (length a.block.now) (l.length-index + 1) c.requires.0))

pub loop-length-preserved : goal.loop-length-preserved
loop-length-preserved c =
    let a = c.args in
    let l = c.loop-length in
    let h : l.length-index < a.k = omega (arith, length-take-le a.k a.lengths.now c.requires.1) in
    let f : SFits w64 (get_or (take a.k a.lengths.now) l.length-index (pos 0)) = search rules in
    rw (cast_is _ f (size_here a.lengths.now a.block.now a.k l.length-index c.requires.0 h))
    (omega arith, rw (add-one l.length-index, start-suc a.lengths.now l.length-index, l.invariant.1))
