-- The call is three tests and then the columns: so what the code tests, in its order, says what comes of it. Assumes nothing.
use mathlib.Core.Path.{◌≡◌, refl}
use Prim.Native.Nat.{ℕ, ◌<◌, ◌≤◌}
use mathlib.Core.Bool.{Bool, true, false, ◌||◌}
use mathlib.Core.List.{List, ◌++◌}
use lib.ListN.{length, drop}
use lib.Dec.{ltb}
use lib.IntN.{ℤ}
use borrow.Author.Tests.{lt-ltb, le-ltb, ltb-false}
use Rattle.format.proofs.Tests.{never}
use Rattle.std.specs.Prelude.{Result}
use Rattle.format.specs.declared.RowNumber.{RowNumber}
use Rattle.labels.specs.declared.ColumnRefusal.{ColumnRefusal}
use Rattle.labels.specs.Labels.{add_up_to}
use Rattle.labels.specs.RowPass.{RowsLaid}
use Rattle.labels.specs.Column.{good_rows, LabelPlaces, offsets_from, gives, refuses, refuses_row, too_few_places, labelling}
use Rattle.labels.specs.Column.{labelled_rows, column_refused, row_refused, LabelledAll}
use Rattle.labels.specs.ColumnLaws.{LabelRoom}

module _ (flags : List ℕ) (lengths : List ℤ) (p : LabelPlaces) where
  pub room_of : too_few_places (length lengths) (length flags) p ≡ false → LabelRoom flags lengths p
  room_of e =
      go (ltb (length p.offsets) (length lengths)) (ltb (length p.starts) (length flags)) (ltb (length p.sizes) (length flags))
      refl refl refl e
    where
      go : (x y z : Bool) → ltb (length p.offsets) (length lengths) ≡ x → ltb (length p.starts) (length flags) ≡ y
          → ltb (length p.sizes) (length flags) ≡ z
          → x || (y || z) ≡ false → LabelRoom flags lengths p
      go true y z p q s e = never (cc)
      go false true z p q s e = never (cc)
      go false false true p q s e = never (cc)
      go false false false p q s e = record { offsets = ltb-false _ _ p; starts = ltb-false _ _ q; sizes = ltb-false _ _ s }

  pub too_few : (LabelRoom flags lengths p → ⊥) → too_few_places (length lengths) (length flags) p ≡ true
  too_few n = go (too_few_places (length lengths) (length flags) p) refl
    where
      go : (t : Bool) → too_few_places (length lengths) (length flags) p ≡ t → t ≡ true
      go true e = refl
      go false e = absurd (n (room_of e))

  pub enough-places : LabelRoom flags lengths p → too_few_places (length lengths) (length flags) p ≡ false
  enough-places m =
      rw (
        le-ltb (length p.offsets) (length lengths) m.offsets,
        le-ltb (length p.starts) (length flags) m.starts,
        le-ltb
            (length p.sizes) (length flags) m.sizes,
      )

module _ (flags : List ℕ) (numbers lengths : List ℤ) (bytes : ℕ) (p : LabelPlaces) where
  pub comes-18 : add_up_to lengths bytes ≡ false → labelling flags numbers lengths bytes p ≡ refuses 18
  unfolding labelling
  comes-18 a = rw a

  module _ (a : add_up_to lengths bytes ≡ true) where
    pub comes-19 : good_rows lengths flags numbers < length flags
        → labelling flags numbers lengths bytes p ≡ refuses_row 19 (good_rows lengths flags numbers)
    unfolding labelling
    comes-19 h = rw (a, lt-ltb (good_rows lengths flags numbers) (length flags) h)

    module _ (g : length flags ≤ good_rows lengths flags numbers) where
      pub comes-8 : too_few_places (length lengths) (length flags) p ≡ true → labelling flags numbers lengths bytes p ≡ refuses 8
      unfolding labelling
      comes-8 t = rw (a, le-ltb (good_rows lengths flags numbers) (length flags) g, t)

      pub comes-all : too_few_places (length lengths) (length flags) p ≡ false → labelling flags numbers lengths bytes p ≡ gives
      unfolding labelling
      comes-all t = rw (a, le-ltb (good_rows lengths flags numbers) (length flags) g, t)

  -- ---- the promise

  module _ (r : Result RowNumber ColumnRefusal) where
    pub leaves : (k : ℕ) → labelling flags numbers lengths bytes p ≡ refuses k → r ≡ column_refused k
        → LabelledAll flags numbers lengths bytes p p r
    leaves k e a = record { answer = rw e a; places = rw e }

    pub leaves-row : (k row : ℕ) → labelling flags numbers lengths bytes p ≡ refuses_row k row → r ≡ row_refused k row
        → LabelledAll flags numbers lengths bytes p p r
    leaves-row k row e a = record { answer = rw e a; places = rw e }

    pub lays_all : labelling flags numbers lengths bytes p ≡ gives → r ≡ labelled_rows (length flags) → (offsets starts sizes : List ℕ)
        → offsets ≡ offsets_from 0 lengths ++ drop (length lengths) p.offsets
        → RowsLaid flags numbers lengths p.starts p.sizes starts sizes
        → LabelledAll flags numbers lengths bytes p (record { offsets = offsets; starts = starts; sizes = sizes }) r
    lays_all e a offsets starts sizes o l = record { answer = rw e a; places = rw (e, o, l.starts-are, l.sizes-are) }
