-- A column with missing rows and the labels of a column, as words, and what `orc_spread` and `orc_label_column` promise: the number that comes back, and every
-- place and word at exit, for all flags, rows and columns. Assumes nothing.
use Rattle.std.specs.Prelude.{◌≡◌, ℕ, List, [], ◌∷◌, length, leb, ℤ, Ok, Err, Option, None, Some, Result}
use Rattle.format.specs.declared.RowNumber.{RowNumber}
use Rattle.format.specs.Fields.{pick}
use Rattle.present.specs.Present.{Spread, spreading, spread_answer, spread_places}
use Rattle.labels.specs.Column.{LabelPlaces, labelling, labels_answer, labels_at}
use Rattle.labels.specs.declared.ColumnRefusal.{ColumnRefusal}
use Rattle.answer_words.specs.Words.{Told, ToldOf}
use Rattle.exports.specs.Numbers.{number_in}

-- word 0 is the case: 1 done, 2 refused; words 1 and 2 are the refusal's number and place, 0 unless refused; word 3 is how many rows the column has, 0 if
-- refused
unfoldable pub spread_words : Spread → List ℕ
spread_words (Ok n) = 1 ∷ 0 ∷ 0 ∷ n.rows ∷ []
spread_words (Err f) = 2 ∷ f.number ∷ f.place.bytes ∷ 0 ∷ []

abbrev pub spread_word_count : ℕ
spread_word_count = 4

-- EACH ROW AT ITS PLACE
abbrev pub SpreadTold : List ℕ → List ℤ → ℤ → List ℤ → List ℤ → List ℕ → List ℕ → ℕ → Type 0
SpreadTold flags rows fill out out' words words' r =
    let m = spreading fill flags rows (length out) in
    ToldOf spread_words (number_in spread_words) (spread_answer m) words words' r (spread_places out m) out out'

-- words 0 to 3 the same; word 4 is the first row that is refused with 19, else 0
abbrev pub refused_row : Option RowNumber → ℕ
refused_row None = 0
refused_row (Some row) = row.rows

unfoldable pub labels_words : Result RowNumber ColumnRefusal → List ℕ
labels_words (Ok n) = 1 ∷ 0 ∷ 0 ∷ n.rows ∷ 0 ∷ []
labels_words (Err f) = 2 ∷ f.refusal.number ∷ f.refusal.place.bytes ∷ 0 ∷ refused_row f.row ∷ []

abbrev pub labels_word_count : ℕ
labels_word_count = 5

-- ALL LABELS: and the three columns at exit; with too few words, as they were
pub record LabelsTold (flags : List ℕ) (numbers lengths : List ℤ) (block : ℕ) (p p' : LabelPlaces) (words words' : List ℕ) (r : ℕ) : Type 0 where
  pub told : Told labels_words (number_in labels_words) (labels_answer (length flags) (labelling flags numbers lengths block p)) words words' r
  pub columns-are : p' ≡ pick (leb labels_word_count (length words)) (labels_at flags numbers lengths p (labelling flags numbers lengths block p)) p

-- ---- any two outcomes that a promise allows are equal

abbrev pub SpreadToldDetermined : Type 0
SpreadToldDetermined =
    (flags : List ℕ) (rows : List ℤ) (fill : ℤ) (out out' out'' : List ℤ) (words words' words'' : List ℕ) (r r' : ℕ)
    → SpreadTold flags rows fill out out' words words' r → SpreadTold flags rows fill out out'' words words'' r'
    → (out' ≡ out'') × (words' ≡ words'') × (r ≡ r')

abbrev pub LabelsToldDetermined : Type 0
LabelsToldDetermined =
    (flags : List ℕ) (numbers lengths : List ℤ) (block : ℕ) (p p' p'' : LabelPlaces) (words words' words'' : List ℕ) (r r' : ℕ)
    → LabelsTold flags numbers lengths block p p' words words' r → LabelsTold flags numbers lengths block p p'' words words'' r'
    → (p' ≡ p'') × (words' ≡ words'') × (r ≡ r')
