-- Every batch, spread column and column of labels has as many words as its function says, and its promise determines the number, the words and every other
-- place: each is an equation. Assumes nothing.
use mathlib.Core.Path.{◌≡◌, refl, sym, ◌∙◌}
use Prim.Native.Nat.{ℕ, ◌<◌, ◌≤◌}
use mathlib.Core.List.{List}
use lib.ListN.{length}
use borrow.Author.Tests.{le-leb, lt-leb}
use lib.IntN.{ℤ}
use Rattle.std.specs.Prelude.{Ok, Err, Result, Some, None}
use Rattle.boolean_rle.specs.Batches.{ByteBatch, FlagBatch}
use Rattle.present.specs.Present.{Spread}
use Rattle.format.specs.declared.RowNumber.{RowNumber}
use Rattle.labels.specs.declared.ColumnRefusal.{ColumnRefusal}
use Rattle.batches.specs.BatchPromise.{Batch}
use Rattle.labels.specs.Column.{LabelPlaces, LabelledAll}
use Rattle.answer_words.specs.Words.{too_few_words, Told, ToldOf}
use Rattle.answer_words.proofs.Telling.{few}
use Rattle.exports.specs.Numbers.{number_in}
use Rattle.exports.specs.Batches.{rows_words, rows_word_count, flags_words, flags_word_count, bytes_words, bytes_word_count, RowsToldDetermined, FlagsToldDetermined, BytesToldDetermined}
use Rattle.exports.specs.LinedUp.{spread_words, spread_word_count, labels_words, labels_word_count, LabelsTold, SpreadToldDetermined, LabelsToldDetermined}
use Rattle.exports.proofs.Telling.{told}

-- a promise with words and other places allows one outcome
pub told-of-one : {B A : Type 0} {words_of : B → List ℕ} {number_of : B → ℕ} {b : B} {words words' words'' : List ℕ} {r r' : ℕ} {done places places' places'' : List A}
    → ToldOf words_of number_of b words words' r done places places' → ToldOf words_of number_of b words words'' r' done places places''
    → (places' ≡ places'') × (words' ≡ words'') × (r ≡ r')
told-of-one p q = (p.places-are ∙ sym q.places-are, p.told.words_are ∙ sym q.told.words_are, p.told.number_is ∙ sym q.told.number_is)

pub rows_long : (b : Batch) → length (rows_words b) ≡ rows_word_count
unfolding rows_words
rows_long (Ok (Some b)) = refl
rows_long (Ok None) = refl
rows_long (Err f) = refl

pub flags_long : (b : FlagBatch) → length (flags_words b) ≡ flags_word_count
unfolding flags_words
flags_long (Ok b) = refl
flags_long (Err f) = refl

pub bytes-long : (b : ByteBatch) → length (bytes_words b) ≡ bytes_word_count
unfolding bytes_words
bytes-long (Ok b) = refl
bytes-long (Err f) = refl

pub spread-long : (s : Spread) → length (spread_words s) ≡ spread_word_count
unfolding spread_words
spread-long (Ok n) = refl
spread-long (Err f) = refl

pub labels-long : (l : Result RowNumber ColumnRefusal) → length (labels_words l) ≡ labels_word_count
unfolding labels_words
labels-long (Ok n) = refl
labels-long (Err f) = refl

-- the labels' three columns: too few words, or the answer laid into them
module _ {flags : List ℕ} {numbers lengths : List ℤ} {block : ℕ} {p : LabelPlaces} {words : List ℕ} where
  pub labels-few : length words < labels_word_count → LabelsTold flags numbers lengths block p p words words too_few_words
  labels-few h = record { told = few labels-long h; columns-are = rw (lt-leb labels_word_count (length words) h) }

  pub labels-told : {p' : LabelPlaces} {words' : List ℕ} {a : Result RowNumber ColumnRefusal} {r : ℕ} → LabelledAll flags numbers lengths block p p' a → labels_word_count ≤ length words
      → Told labels_words (number_in labels_words) a words words' r → LabelsTold flags numbers lengths block p p' words words' r
  labels-told q h t = record { told = told q.answer t; columns-are = rw (le-leb labels_word_count (length words) h) q.places }

pub rows-told-determined : RowsToldDetermined
rows-told-determined input at skip flag out out' out'' words words' words'' r r' p q = told-of-one p q

pub flags-told-determined : FlagsToldDetermined
flags-told-determined input at bytes bits n out out' out'' words words' words'' r r' p q = told-of-one p q

pub bytes-told-determined : BytesToldDetermined
bytes-told-determined input at bytes n out out' out'' words words' words'' r r' p q = told-of-one p q

pub spread-told-determined : SpreadToldDetermined
spread-told-determined flags rows fill out out' out'' words words' words'' r r' p q = told-of-one p q

pub labels-told-determined : LabelsToldDetermined
labels-told-determined flags numbers lengths block p p' p'' words words' words'' r r' s t =
    (s.columns-are ∙ sym t.columns-are, s.told.words_are ∙ sym t.told.words_are, s.told.number_is ∙ sym t.told.number_is)
