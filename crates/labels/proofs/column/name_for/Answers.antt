-- A named row has its number, and no length is below 0, so both casts are the numbers. Assumes nothing.
use mathlib.Core.Path.{◌≡◌}
use lib.ListN.{get_or}
use lib.IntN.{pos, nat_abs}
use mir.Syntax.{w64}
use mir.Val.{SFits, to_z, of_z}
use borrow.Author.Tests.{ne_eqb}
use Rattle.std.proofs.Common.{rules}
use Rattle.labels.specs.Labels.{size}
use Rattle.labels.proofs.Labels.{sound_sizes}
use Rattle.labels.proofs.Columns.{cast_is, cast_fits}
use Rattle.labels.proofs.ColumnWalk.{Inside, next-inside}
use Rattle.labels.proofs.column.name_for.Goals as goal

pub overflow_cast-result : goal.overflow_cast-result
overflow_cast-result c =
    let a = c.args in
    let inside : Inside a.lengths.now a.numbers.now a.at = next-inside a.lengths.now a.numbers.now a.at (rw (ne_eqb a.flag 0 c.if-flag-eq0.false) at c.requires.0) in
    let f : SFits w64 (get_or a.numbers.now a.at (pos 0)) = search rules in
    let k : nat_abs (to_z w64 (of_z w64 (get_or a.numbers.now a.at (pos 0)))) ≡ size (get_or a.numbers.now a.at (pos 0)) = cast_is _ f inside.natural in
    let g : SFits w64 (get_or a.lengths.now (nat_abs (to_z w64 (of_z w64 (get_or a.numbers.now a.at (pos 0))))) (pos 0)) = search rules in
    rw k (cast_fits _ (rw k at g) (sound_sizes a.lengths.now _ c.requires.2))

pub returns : goal.returns
returns c =
    let a = c.args in
    let inside : Inside a.lengths.now a.numbers.now a.at = next-inside a.lengths.now a.numbers.now a.at (rw (ne_eqb a.flag 0 c.if-flag-eq0.false) at c.requires.0) in
    let f : SFits w64 (get_or a.numbers.now a.at (pos 0)) = search rules in
    let k : nat_abs (to_z w64 (of_z w64 (get_or a.numbers.now a.at (pos 0)))) ≡ size (get_or a.numbers.now a.at (pos 0)) = cast_is _ f inside.natural in
    let g : SFits w64 (get_or a.lengths.now (nat_abs (to_z w64 (of_z w64 (get_or a.numbers.now a.at (pos 0))))) (pos 0)) = search rules in
    rw (k, cast_is _ (rw k at g) (sound_sizes a.lengths.now _ c.requires.2), ne_eqb a.flag 0 c.if-flag-eq0.false)
