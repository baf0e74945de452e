-- A column for each slip, by computation. The block has five bytes, the names two and three of them; rows 0 and 2 have a name. Assumes
-- nothing.
use mathlib.Core.Path.{◌≡◌, refl}
use mathlib.Core.List.{List, [], ◌∷◌}
use lib.IntN.{ℤ, pos, negsuc}
use Rattle.present.specs.Present.{present, spread}
use Rattle.std.specs.Prelude.{Result}
use Rattle.format.specs.declared.RowNumber.{RowNumber}
use Rattle.labels.specs.declared.ColumnRefusal.{ColumnRefusal}
use Rattle.labels.specs.Labels.{total, none_below, add_up_to, start_of, size_of}
use Rattle.labels.specs.Column.{good_rows, LabelPlaces, offsets_from, labelling, labelled_rows, column_refused, row_refused, labels_answer}
use Rattle.labels.specs.Column.{labels_at}

abbrev lengths : List ℤ
lengths = pos 2 ∷ pos 3 ∷ []

abbrev numbers : List ℤ
numbers = pos 1 ∷ pos 0 ∷ []

-- a place more than is needed, in each
abbrev places : LabelPlaces
places = record { offsets = 90 ∷ 91 ∷ 92 ∷ []; starts = 80 ∷ 81 ∷ 82 ∷ 83 ∷ []; sizes = 70 ∷ 71 ∷ 72 ∷ 73 ∷ [] }

unfoldable outcome : List ℤ → List ℤ → LabelPlaces → Result RowNumber ColumnRefusal × LabelPlaces
unfolding total none_below add_up_to start_of size_of good_rows offsets_from present spread labelling
outcome lengths numbers c =
    let o = labelling (1 ∷ 0 ∷ 2 ∷ []) numbers lengths 5 c in
    (labels_answer 3 o, labels_at (1 ∷ 0 ∷ 2 ∷ []) numbers lengths c o)

-- the numbers counted by name and not by row, flag 2 means a name, and the place after the last keeps its content
all_three : outcome lengths numbers places
    ≡ (labelled_rows 3, record { offsets = 0 ∷ 2 ∷ 92 ∷ []; starts = 2 ∷ 0 ∷ 0 ∷ 83 ∷ []; sizes = 3 ∷ 0 ∷ 2 ∷ 73 ∷ [] })
unfolding outcome
all_three = refl

-- more numbers than named rows are not looked at
one_more : outcome lengths (pos 1 ∷ pos 0 ∷ negsuc 0 ∷ []) places
    ≡ (labelled_rows 3, record { offsets = 0 ∷ 2 ∷ 92 ∷ []; starts = 2 ∷ 0 ∷ 0 ∷ 83 ∷ []; sizes = 3 ∷ 0 ∷ 2 ∷ 73 ∷ [] })
unfolding outcome
one_more = refl

-- 18 before 19
eighteen-first : outcome (pos 2 ∷ []) (negsuc 0 ∷ []) places ≡ (column_refused 18, places)
unfolding outcome
eighteen-first = refl

-- 19 with the row, and not the number's place: a missing number, one past the last; the first of two
missing : outcome lengths (pos 1 ∷ []) places ≡ (row_refused 19 2, places)
unfolding outcome
missing = refl

past : outcome lengths (pos 1 ∷ pos 2 ∷ []) places ≡ (row_refused 19 2, places)
unfolding outcome
past = refl

first : outcome lengths (negsuc 0 ∷ pos 2 ∷ []) places ≡ (row_refused 19 0, places)
unfolding outcome
first = refl

-- 19 before 8; then 8 for any of the three
abbrev few : LabelPlaces
few = record { offsets = 90 ∷ 91 ∷ []; starts = 80 ∷ 81 ∷ 82 ∷ []; sizes = 70 ∷ 71 ∷ [] }

nineteen-first : outcome lengths (pos 1 ∷ []) few ≡ (row_refused 19 2, few)
unfolding outcome
nineteen-first = refl

eight : outcome lengths numbers few ≡ (column_refused 8, few)
unfolding outcome
eight = refl
