-- The index's answers as words, and what its three exported functions promise: the number that comes back, and every lent word, column and row at exit,
-- for every input, all columns and every row. Assumes nothing.
use Rattle.std.specs.Prelude.{◌≡◌, ℕ, List, [], ◌∷◌, length, leb, ℤ, Ok, Err}
use Rattle.format.specs.Fields.{pick}
use Rattle.exports.specs.RowBytes.{is_signed}
use Rattle.answer_words.specs.Words.{cut_case, cut_byte, Told, ToldOf}
use Rattle.exports.specs.Numbers.{number_in}
use Rattle.index.specs.Entries.{preview_places}
use Rattle.index.specs.Columns.{Columns, columns_at, building_in, lookup_in, reading_in}
use Rattle.index.specs.Promises.{Built, Found, Preview, built_of, found_of, preview_of}

-- ---- WHAT WAS BUILT

-- word 0 is the case: 1 built, 2 refused; words 1 and 2 are the refusal's number and place, 0 unless refused; words 3, 4 and 5 are how many
-- entries there are, and the rows and the bytes of the stream, 0 where refused; word 6 is 1 where the input ends in a field of the refused run,
-- else 0, and word 7 the byte where that field begins, 0 where there is none
unfoldable pub built_words : Built → List ℕ
built_words (Ok s) = 1 ∷ 0 ∷ 0 ∷ s.entries ∷ s.rows.rows ∷ s.consumed.bytes ∷ 0 ∷ 0 ∷ []
built_words (Err f) = 2 ∷ f.number ∷ f.place.bytes ∷ 0 ∷ 0 ∷ 0 ∷ cut_case f.cut ∷ cut_byte f.cut ∷ []

abbrev pub built_word_count : ℕ
built_word_count = 8

-- ---- WHAT WAS FOUND

-- word 0 is the case: 1 found, 2 refused; words 1 and 2 are the refusal's number and place, 0 unless refused; words 3, 4 and 5 are the
-- entry's first row, its byte offset and its rows, 0 where refused
unfoldable pub found_words : Found → List ℕ
found_words (Ok e) = 1 ∷ 0 ∷ 0 ∷ e.first.rows ∷ e.at.bytes ∷ e.rows.rows ∷ []
found_words (Err f) = 2 ∷ f.number ∷ f.place.bytes ∷ 0 ∷ 0 ∷ 0 ∷ []

abbrev pub found_word_count : ℕ
found_word_count = 6

-- ---- WHAT WAS READ

-- word 0 is the case: 1 rows, 2 refused; words 1 and 2 are the refusal's number and place, 0 unless refused; word 3 is how many rows
-- were read, 0 where refused
unfoldable pub preview_words : Preview → List ℕ
preview_words (Ok n) = 1 ∷ 0 ∷ 0 ∷ n.rows ∷ []
preview_words (Err f) = 2 ∷ f.number ∷ f.place.bytes ∷ 0 ∷ []

abbrev pub preview_word_count : ℕ
preview_word_count = 4

-- ---- THE FUNCTIONS

-- BUILDING: and the columns at exit; where the words are too few, as they were
pub record IndexTold (input first at counts first' at' counts' words words' : List ℕ) (r : ℕ) : Type 0 where
  pub told : Told built_words (number_in built_words) (built_of (length input) (building_in (length first) (length at) (length counts) input)) words words' r
  pub columns-are : ◌≡◌ {A = Columns} (record { firsts = first'; offsets = at'; counts = counts' })
      (pick (leb built_word_count (length words))
      (columns_at (record { firsts = first; offsets = at; counts = counts }) (building_in (length first) (length at) (length counts) input))
      (record { firsts = first; offsets = at; counts = counts }))

-- LOOKING UP: nothing but the words is lent
abbrev pub LookUpTold : List ℕ → Columns → ℕ → List ℕ → List ℕ → ℕ → Type 0
LookUpTold input c row words words' r = Told found_words (number_in found_words) (found_of (lookup_in c input row)) words words' r

-- READING FROM A ROW
abbrev pub ReadFromTold : List ℕ → Columns → ℕ → ℕ → List ℤ → List ℤ → List ℕ → List ℕ → ℕ → Type 0
ReadFromTold input c row flag rows rows' words words' r =
    let m = reading_in (is_signed flag) (length rows) c input row in
    ToldOf preview_words (number_in preview_words) (preview_of m) words words' r (preview_places rows m) rows rows'

-- ---- any two outcomes that a promise allows are equal

abbrev pub IndexToldDetermined : Type 0
IndexToldDetermined =
    (input first at counts f o n f' o' n' words words' words'' : List ℕ) (r r' : ℕ)
    → IndexTold input first at counts f o n words words' r → IndexTold input first at counts f' o' n' words words'' r'
    → (f ≡ f') × (o ≡ o') × (n ≡ n') × (words' ≡ words'') × (r ≡ r')

abbrev pub LookUpToldDetermined : Type 0
LookUpToldDetermined =
    (input : List ℕ) (c : Columns) (row : ℕ) (words words' words'' : List ℕ) (r r' : ℕ)
    → LookUpTold input c row words words' r → LookUpTold input c row words words'' r' → (words' ≡ words'') × (r ≡ r')

abbrev pub ReadFromToldDetermined : Type 0
ReadFromToldDetermined =
    (input : List ℕ) (c : Columns) (row flag : ℕ) (rows rows' rows'' : List ℤ) (words words' words'' : List ℕ) (r r' : ℕ)
    → ReadFromTold input c row flag rows rows' words words' r → ReadFromTold input c row flag rows rows'' words words'' r'
    → (rows' ≡ rows'') × (words' ≡ words'') × (r ≡ r')
