-- What is proved of all labels of a column: row by row they are those of `label`. Stated for all columns, blocks, fallbacks and places.
-- Assumes nothing.
use Rattle.std.specs.Prelude.{◌≡◌, ◌↔◌, ℕ, ◌<◌, ◌≤◌, List, length, drop, get_or, T, ℤ, Result}
use Rattle.format.specs.declared.RowNumber.{RowNumber}
use Rattle.format.specs.declared.Refusal.{Refusal}
use Rattle.format.specs.Fields.{pick}
use Rattle.labels.specs.Labels.{is_name, start_of, name_at, fallback_of, refused_with, label}
use Rattle.labels.specs.Laws.{AddUp}
use Rattle.labels.specs.Column.{LabelPlaces, labelled_rows, column_refused, row_refused, LabelledAll}
use Rattle.labels.specs.declared.Label.{Label}
use Rattle.labels.specs.declared.ColumnRefusal.{ColumnRefusal}

-- what the columns hold of a row: a name, by where it begins and its length, or the fallback
abbrev pub label_held : List ℕ → List ℕ → LabelPlaces → ℕ → Result Label Refusal
label_held flags fall p row =
    pick (is_name (get_or flags row 0)) (name_at (get_or p.starts row 0) (get_or p.sizes row 0)) (fallback_of (length fall))

-- there are places enough in all three
pub record LabelRoom (flags : List ℕ) (lengths : List ℤ) (p : LabelPlaces) : Type 0 where
  pub offsets : length lengths ≤ length p.offsets
  pub starts : length flags ≤ length p.starts
  pub sizes : length flags ≤ length p.sizes

-- the places after the names, and after the rows, are as they were
pub record OthersKept (flags : List ℕ) (lengths : List ℤ) (p p' : LabelPlaces) : Type 0 where
  pub offsets : drop (length lengths) p'.offsets ≡ drop (length lengths) p.offsets
  pub starts : drop (length flags) p'.starts ≡ drop (length flags) p.starts
  pub sizes : drop (length flags) p'.sizes ≡ drop (length flags) p.sizes

module _ (flags : List ℕ) (numbers lengths : List ℤ) (block : List ℕ) where
  -- this row's own label is refused with this number, whatever the fallback
  abbrev pub RowRefused : ℕ → ℕ → Type 0
  RowRefused number row = (fall : List ℕ) → label lengths numbers flags block fall row ≡ refused_with number

  -- no row is refused with 19
  abbrev pub NoneNineteen : Type 0
  NoneNineteen = (row : ℕ) → row < length flags → RowRefused 19 row → ⊥

module _ (flags : List ℕ) (numbers lengths : List ℤ) (block : List ℕ) (p : LabelPlaces) where
  -- ---- EACH ANSWER, EXACTLY WHEN: in the order 18, 19, 8
  pub data ColumnSaid : Result RowNumber ColumnRefusal → Type 0 where
    eighteen : (AddUp lengths block → ⊥) → ColumnSaid (column_refused 18)
    -- the first row that has it; 18 does not apply, or this row would have that
    nineteen : (row : ℕ) → row < length flags → RowRefused flags numbers lengths block 19 row
        → ((k : ℕ) → k < row → RowRefused flags numbers lengths block 19 k → ⊥) → ColumnSaid (row_refused 19 row)
    eight : AddUp lengths block → NoneNineteen flags numbers lengths block → (LabelRoom flags lengths p → ⊥) → ColumnSaid (column_refused 8)
    all-rows : AddUp lengths block → NoneNineteen flags numbers lengths block → LabelRoom flags lengths p
        → ColumnSaid (labelled_rows (length flags))

module _ (flags : List ℕ) (numbers lengths : List ℤ) (block : List ℕ) (p p' : LabelPlaces) (r : Result RowNumber ColumnRefusal) where
  pub record AllLabels : Type 0 where
    pub exactly : (a : Result RowNumber ColumnRefusal) → (r ≡ a) ↔ ColumnSaid flags numbers lengths block p a
    -- 18 is that of every row
    pub every-18 : r ≡ column_refused 18 → (row : ℕ) → row < length flags → RowRefused flags numbers lengths block 18 row
    pub from-18 : (row : ℕ) → row < length flags → RowRefused flags numbers lengths block 18 row → r ≡ column_refused 18
    -- any row's own 19 makes it 19, with that row or one before it
    pub some-19 : (row : ℕ) → row < length flags → RowRefused flags numbers lengths block 19 row
        → (first : ℕ) × (first ≤ row) × (r ≡ row_refused 19 first)
    -- if labels are given, the columns hold of each row what `label` says of it ..
    pub each : (n : ℕ) → r ≡ labelled_rows n → (fall : List ℕ) (row : ℕ) → row < length flags
        → label lengths numbers flags block fall row ≡ label_held flags fall p' row
    -- .. a row without a name has 0 and 0 ..
    pub no_name : (n : ℕ) → r ≡ labelled_rows n → (row : ℕ) → row < length flags → (T (is_name (get_or flags row 0)) → ⊥)
        → (get_or p'.starts row 0 ≡ 0) × (get_or p'.sizes row 0 ≡ 0)
    -- .. the offsets say where each name begins ..
    pub begins : (n : ℕ) → r ≡ labelled_rows n → (k : ℕ) → k < length lengths → get_or p'.offsets k 0 ≡ start_of lengths k
    -- .. and every other place keeps its content
    pub kept : (n : ℕ) → r ≡ labelled_rows n → OthersKept flags lengths p p'
    -- a refused call changes no place
    pub untouched : (k : ℕ) → r ≡ column_refused k → p' ≡ p
    pub untouched-row : (k row : ℕ) → r ≡ row_refused k row → p' ≡ p

abbrev pub AllLabelsHold : Type 0
AllLabelsHold =
    (flags : List ℕ) (numbers lengths : List ℤ) (block : List ℕ) (p p' : LabelPlaces) (r : Result RowNumber ColumnRefusal)
    → LabelledAll flags numbers lengths (length block) p p' r → AllLabels flags numbers lengths block p p' r

-- any two outcomes that the promise allows are equal
abbrev pub AllLabelsDetermined : Type 0
AllLabelsDetermined =
    (flags : List ℕ) (numbers lengths : List ℤ) (bytes : ℕ) (p one two : LabelPlaces) (r r' : Result RowNumber ColumnRefusal)
    → LabelledAll flags numbers lengths bytes p one r → LabelledAll flags numbers lengths bytes p two r' → (r ≡ r') × (one ≡ two)
