-- ALL LABELS IN ONE PASS (FORMAT.md, "All labels in one pass"): three columns, with where each name begins, and for each row where its name
-- begins and its length.
-- Assumes nothing.
use Rattle.std.specs.Prelude.{◌≡◌, ℕ, suc, ◌+◌, Bool, true, false, not, ◌||◌, List, [], ◌∷◌, ◌++◌, map, length, drop, ltb, ℤ, pos, negsuc, Some, None, Result, Ok, Err}
use Rattle.format.specs.Fields.{pick}
use Rattle.format.specs.Answers.{refusing}
use Rattle.present.specs.Present.{rows_for, spread}
use Rattle.labels.specs.Labels.{size, add_up_to, start_of, size_of, is_name}
use Rattle.format.specs.declared.RowNumber.{RowNumber}
use Rattle.labels.specs.declared.ColumnRefusal.{ColumnRefusal}

-- ---- THE ROWS THAT HAVE WHAT THEY NEED

-- the next of the numbers is there, and it is one of the dictionary
abbrev pub next_inside : List ℤ → List ℤ → Bool
next_inside lengths [] = false
next_inside lengths (pos k ∷ numbers) = ltb k (length lengths)
next_inside lengths (negsuc k ∷ numbers) = false

-- a row without a name needs no number, and a named row the next
abbrev pub has_number : List ℤ → ℕ → List ℤ → Bool
has_number lengths flag numbers = pick (is_name flag) (next_inside lengths numbers) true

-- how many rows stand before the first named row whose number is outside the dictionary or missing: all, if there is none
unfoldable pub good_rows : List ℤ → List ℕ → List ℤ → ℕ
good_rows lengths [] numbers = 0
good_rows lengths (f ∷ fs) numbers = pick (has_number lengths f numbers) (suc (good_rows lengths fs (drop (rows_for f) numbers))) 0

-- ---- THE COLUMNS

-- the places that the caller lends, for each of the three
pub record LabelPlaces : Type 0 where
  pub offsets : List ℕ
  pub starts : List ℕ
  pub sizes : List ℕ

abbrev pub places_in : List ℕ → List ℕ → List ℕ → LabelPlaces
places_in offsets starts sizes = record { offsets = offsets; starts = starts; sizes = sizes }

-- where each name begins: the sums before each of the lengths, and what stands before them all
unfoldable pub offsets_from : ℕ → List ℤ → List ℕ
offsets_from sum [] = []
offsets_from sum (z ∷ zs) = sum ∷ offsets_from (sum + size z) zs

-- where the name of a number begins, and its length
abbrev pub start_for : List ℤ → ℤ → ℕ
start_for lengths z = start_of lengths (size z)

abbrev pub size_for : List ℤ → ℤ → ℕ
size_for lengths z = size_of lengths (size z)

-- the numbers are a column with missing rows, and a row without a name has 0 and 0
abbrev pub starts_of : List ℤ → List ℕ → List ℤ → List ℕ
starts_of lengths flags numbers = spread 0 flags (map (start_for lengths) numbers)

abbrev pub sizes_of : List ℤ → List ℕ → List ℤ → List ℕ
sizes_of lengths flags numbers = spread 0 flags (map (size_for lengths) numbers)

-- ---- THE CALL: 18 as for one row; then 19, with the first row that has it; then 8 if there are too few places in any of the three

pub data LabelOutcome : Type 0 where
  gives : LabelOutcome
  refuses : ℕ → LabelOutcome
  refuses_row : ℕ → ℕ → LabelOutcome

-- fewer places than names for the offsets, or than rows for the starts or the sizes
abbrev pub too_few_places : ℕ → ℕ → LabelPlaces → Bool
too_few_places names rows p = ltb (length p.offsets) names || (ltb (length p.starts) rows || ltb (length p.sizes) rows)

unfoldable pub labelling : List ℕ → List ℤ → List ℤ → ℕ → LabelPlaces → LabelOutcome
labelling flags numbers lengths bytes p =
    pick (not (add_up_to lengths bytes)) (refuses 18)
    (pick (ltb (good_rows lengths flags numbers) (length flags)) (refuses_row 19 (good_rows lengths flags numbers))
    (pick (too_few_places (length lengths) (length flags) p) (refuses 8)
    gives))

-- ---- THE ANSWER: how many rows have their labels; or a refusal, by its number, at place 0, and for 19 the row

abbrev pub labelled_rows : ℕ → Result RowNumber ColumnRefusal
labelled_rows rows = Ok (record { rows = rows })

abbrev pub column_refused : ℕ → Result RowNumber ColumnRefusal
column_refused number = Err (record { refusal = refusing number 0; row = None })

abbrev pub row_refused : ℕ → ℕ → Result RowNumber ColumnRefusal
row_refused number row = Err (record { refusal = refusing number 0; row = Some (record { rows = row }) })

abbrev pub labels_answer : ℕ → LabelOutcome → Result RowNumber ColumnRefusal
labels_answer rows gives = labelled_rows rows
labels_answer rows (refuses number) = column_refused number
labels_answer rows (refuses_row number row) = row_refused number row

-- ---- THE PLACES at exit: the columns in the first ones, and what stood in the others; a refused call leaves them all as they were

abbrev pub labels_at : List ℕ → List ℤ → List ℤ → LabelPlaces → LabelOutcome → LabelPlaces
labels_at flags numbers lengths p gives = record {
  offsets = offsets_from 0 lengths ++ drop (length lengths) p.offsets;
  starts = starts_of lengths flags numbers ++ drop (length flags) p.starts;
  sizes = sizes_of lengths flags numbers ++ drop (length flags) p.sizes;
}
labels_at flags numbers lengths p (refuses number) = p
labels_at flags numbers lengths p (refuses_row number row) = p

-- ---- THE PROMISE

pub record LabelledAll (flags : List ℕ) (numbers lengths : List ℤ) (bytes : ℕ) (p p' : LabelPlaces) (r : Result RowNumber ColumnRefusal) : Type 0 where
  pub answer : r ≡ labels_answer (length flags) (labelling flags numbers lengths bytes p)
  pub places : p' ≡ labels_at flags numbers lengths p (labelling flags numbers lengths bytes p)
