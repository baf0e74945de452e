-- The code makes the definition's tests in the definition's order, and lays the three columns after all of them. Assumes nothing.
use mathlib.Core.Path.{◌≡◌, refl, sym, ap, ◌∙◌}
use Prim.Native.Nat.{ℕ, ◌≤◌}
use mathlib.Core.List.{List}
use lib.IntN.{ℤ}
use mathlib.Core.Bool.{true}
use native.Mathlib.Omega.{arith}
use lib.ListN.{length}
use Rattle.labels.specs.Labels.{add_up_to}
use Rattle.labels.specs.Column.{LabelPlaces, good_rows, column_refused, row_refused, LabelledAll}
use Rattle.std.specs.Prelude.{Result}
use Rattle.format.specs.declared.RowNumber.{RowNumber}
use Rattle.labels.specs.declared.ColumnRefusal.{ColumnRefusal}
use Rattle.labels.specs.ColumnLaws.{LabelRoom}
use Rattle.labels.proofs.ColumnOutcome.{too_few, enough-places, comes-18, comes-19, comes-8, comes-all, leaves}
use Rattle.labels.proofs.ColumnWalk.{good-le}
use Rattle.labels.proofs.ColumnOutcome.{leaves-row, lays_all}
use Rattle.format.proofs.Tests.{T_true}
use Rattle.labels.proofs.Labels.{sums_none, below_none}
use Rattle.labels.proofs.label_column.Goals as goal

-- ---- 18, 19
pub returns-then-not-add_up : goal.returns-then-not-add_up
returns-then-not-add_up c =
    let lent : LabelPlaces = record { offsets = c.args.offsets.now; starts = c.args.starts.now; sizes = c.args.sizes.now } in
    let places = lent in
    leaves _ _ _ _ places _ 18 (comes-18 _ _ _ _ places (sym c.add_up.ensures ∙ c.if-not-add_up.true))
    c.new.ensures

pub returns-then-good-rows : goal.returns-then-good-rows
returns-then-good-rows c =
    let lent : LabelPlaces = record { offsets = c.args.offsets.now; starts = c.args.starts.now; sizes = c.args.sizes.now } in
    let a = c.args in
    let places = lent in
    leaves-row a.flags.now a.numbers.now a.lengths.now a.block.bytes places _ 19 _
    (comes-19 a.flags.now a.numbers.now a.lengths.now a.block.bytes places
    (sym c.add_up.ensures ∙ c.if-not-add_up.false)
    (omega (arith, c.good_rows-good.ensures, c.if-good-rows.true)))
    (c.of_row.ensures ∙ ap (row_refused 19) c.good_rows-good.ensures)

-- ---- 8: too few places, in any of the three
module _ (flags : List ℕ) (numbers lengths : List ℤ) (bytes : ℕ) (places : LabelPlaces) where
  few : add_up_to lengths bytes ≡ true → length flags ≤ good_rows lengths flags numbers → (LabelRoom flags lengths places → ⊥) → (r : Result RowNumber ColumnRefusal)
      → r ≡ column_refused 8 → LabelledAll flags numbers lengths bytes places places r
  few a g n r p = leaves flags numbers lengths bytes places r 8 (comes-8 flags numbers lengths bytes places a g (too_few flags lengths places n)) p

pub returns-then-offsets-lengths : goal.returns-then-offsets-lengths
returns-then-offsets-lengths c =
    let a = c.args in
    let places : LabelPlaces = record { offsets = a.offsets.now; starts = a.starts.now; sizes = a.sizes.now } in
    few a.flags.now a.numbers.now a.lengths.now a.block.bytes places
    (sym c.add_up.ensures ∙ c.if-not-add_up.false) (omega (arith, c.good_rows-good.ensures, c.if-good-rows.false))
    (λ m. omega (arith, m.offsets, c.if-offsets-lengths.true)) _ c.new-then-offsets-lengths.ensures

pub returns-then-starts-rows : goal.returns-then-starts-rows
returns-then-starts-rows c =
    let a = c.args in
    let places : LabelPlaces = record { offsets = a.offsets.now; starts = a.starts.now; sizes = a.sizes.now } in
    few a.flags.now a.numbers.now a.lengths.now a.block.bytes places
    (sym c.add_up.ensures ∙ c.if-not-add_up.false) (omega (arith, c.good_rows-good.ensures, c.if-good-rows.false))
    (λ m. omega (arith, m.starts, c.if-starts-rows.true)) _ c.new-then-starts-rows.ensures

pub returns-then-sizes-rows : goal.returns-then-sizes-rows
returns-then-sizes-rows c =
    let a = c.args in
    let places : LabelPlaces = record { offsets = a.offsets.now; starts = a.starts.now; sizes = a.sizes.now } in
    few a.flags.now a.numbers.now a.lengths.now a.block.bytes places
    (sym c.add_up.ensures ∙ c.if-not-add_up.false) (omega (arith, c.good_rows-good.ensures, c.if-good-rows.false))
    (λ m. omega (arith, m.sizes, c.if-sizes-rows.true)) _ c.new-then-sizes-rows.ensures

-- ---- the columns
pub put_offsets-requires : goal.put_offsets-requires
put_offsets-requires c =
    let adds : (let a = c.args in add_up_to a.lengths.now a.block.bytes ≡ true) = sym c.add_up.ensures ∙ c.if-not-add_up.false in
    let lent : LabelPlaces = record { offsets = c.args.offsets.now; starts = c.args.starts.now; sizes = c.args.sizes.now } in
    let room : LabelRoom c.args.flags.now c.args.lengths.now (lent) = record { offsets = c.if-offsets-lengths.false; starts = c.if-starts-rows.false; sizes = c.if-sizes-rows.false } in
    (adds, room.offsets)

pub put_labels-requires : goal.put_labels-requires
put_labels-requires c =
    let good : (let a = c.args in length a.flags.now ≤ good_rows a.lengths.now a.flags.now a.numbers.now) = omega (arith, c.good_rows-good.ensures, c.if-good-rows.false) in
    let lent : LabelPlaces = record { offsets = c.args.offsets.now; starts = c.args.starts.now; sizes = c.args.sizes.now } in
    let room : LabelRoom c.args.flags.now c.args.lengths.now (lent) = record { offsets = c.if-offsets-lengths.false; starts = c.if-starts-rows.false; sizes = c.if-sizes-rows.false } in
    let a = c.args in (
      record {
        good = omega (arith, good, good-le a.lengths.now a.flags.now a.numbers.now);
        begins = (_, c.put_offsets.ensures);
        in-starts = room.starts;
        in-sizes = room.sizes;
      },
      T_true _ (below_none _ (sums_none a.lengths.now a.block.bytes (sym c.add_up.ensures ∙ c.if-not-add_up.false))),
    )

pub returns : goal.returns
returns c =
    let lent : LabelPlaces = record { offsets = c.args.offsets.now; starts = c.args.starts.now; sizes = c.args.sizes.now } in
    let adds : (let a = c.args in add_up_to a.lengths.now a.block.bytes ≡ true) = sym c.add_up.ensures ∙ c.if-not-add_up.false in
    let good : (let a = c.args in length a.flags.now ≤ good_rows a.lengths.now a.flags.now a.numbers.now) = omega (arith, c.good_rows-good.ensures, c.if-good-rows.false) in
    let room : LabelRoom c.args.flags.now c.args.lengths.now (lent) = record { offsets = c.if-offsets-lengths.false; starts = c.if-starts-rows.false; sizes = c.if-sizes-rows.false } in
    let a = c.args in
    lays_all a.flags.now a.numbers.now a.lengths.now a.block.bytes (lent) _
    (comes-all a.flags.now a.numbers.now a.lengths.now a.block.bytes (lent) (adds) (good)
    (enough-places a.flags.now a.lengths.now (lent) (room)))
    refl _ _ _ c.put_offsets.ensures c.put_labels.ensures
