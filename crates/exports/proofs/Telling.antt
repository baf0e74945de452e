-- An answer put into words, and what a call with lent words promises by it. Assumes nothing.
use mathlib.Core.Path.{◌≡◌, refl, sym, ap, ◌∙◌}
use Prim.Native.Nat.{ℕ, ◌<◌, ◌≤◌}
use mathlib.Core.List.{List, ◌++◌}
use lib.ListN.{length, drop, get_or}
use lib.Dec.{leb}
use borrow.Author.Tests.{le-leb, lt-leb}
use Rattle.format.specs.Fields.{pick}
use Rattle.std.specs.Prelude.{Option, Some, None, Result, Ok, Err}
use Rattle.format.specs.declared.Refusal.{Refusal}
use Rattle.labels.specs.declared.Label.{Label}
use Rattle.labels.specs.declared.Label.TheVariants as label
use Rattle.index.specs.Columns.{Columns}
use Rattle.index.specs.Promises.{Built, Found, Preview, BuiltIn}
use Rattle.std.specs.Prelude.{Ok, Err}
use Rattle.exports.specs.Numbers.{number_in}
use Rattle.exports.specs.Index.{built_words, built_word_count, IndexTold, IndexToldDetermined, found_words, found_word_count, LookUpToldDetermined, preview_words, preview_word_count, ReadFromToldDetermined}
use Rattle.exports.specs.Labels.{label_words, label_word_count, LabelToldDetermined}
use Rattle.exports.specs.Patched.{PatchedToldDetermined}
use Rattle.convert.specs.declared.Conversion.{Conversion}
use Rattle.exports.specs.Converting.{convert_words, convert_word_count, ConvertToldDetermined}
use Rattle.std.specs.Prelude.{Ok, Err}
use Rattle.boolean_rle.specs.Ones.{Count}
use Rattle.exports.specs.Counts.{count_words, count_word_count, CountToldDetermined}
use Rattle.std.specs.Prelude.{Ok, Err}
use Rattle.salvage.specs.Salvage.{Outcome}
use Rattle.exports.specs.Salvage.{salvage_words, salvage_word_count, SalvageToldDetermined}
use Rattle.planner.specs.declared.Columned.{Columned}
use Rattle.planner.specs.declared.ColumnRuns.{ColumnRuns}
use Rattle.planner.specs.declared.ColumnRuns.TheVariants as column
use Rattle.exports.specs.Columns.{check_words, check_word_count, CheckToldDetermined, column_words, column_word_count, ColumnToldDetermined}
use Rattle.answer_words.specs.Words.{too_few_words, Told, ToldOf}
use Rattle.answer_words.proofs.Telling.{few}

-- what was told is a callee's answer
pub told : {B : Type 0} {words_of : B → List ℕ} {number_of : B → ℕ} {a b : B} {words words' : List ℕ} {r : ℕ} → a ≡ b → Told words_of number_of a words words' r
    → Told words_of number_of b words words' r
told q p = rw q at p

-- over any answers whose words are counted
module _ {B : Type 0} {words_of : B → List ℕ} {number_of : B → ℕ} {n : ℕ} (long : (b : B) → length (words_of b) ≡ n) where
  -- too few words: nothing is touched
  pub few-of : {A : Type 0} {b : B} {words : List ℕ} {done places : List A} → length words < n → ToldOf words_of number_of b words words too_few_words done places places
  few-of {A} {b} {words} h = let e = lt-leb n (length words) h in record { told = few long h; places-are = rw (long b, e) }

  -- enough: the words that were laid down are the answer's
  pub laid_by : {b : B} {said words words' : List ℕ} {r : ℕ} → n ≤ length words → r ≡ number_of b → said ≡ words_of b
      → words' ≡ pick (leb (length said) (length words)) (said ++ drop (length said) words) words → Told words_of number_of b words words' r
  laid_by {b} {said} {words} h z e q = record { number_is = rw (long b, le-leb n (length words) h) z; words_are = rw e at q }

  -- and the other lent places are what the callee made of them
  pub told_of : {A : Type 0} {a b : B} {words words' : List ℕ} {r : ℕ} {done places places' : List A} → a ≡ b → n ≤ length words → places' ≡ done
      → Told words_of number_of a words words' r → ToldOf words_of number_of b words words' r done places places'
  told_of {A} {a} {b} {words} q h d p = record { told = told q p; places-are = rw (long b, le-leb n (length words) h) d }

-- the number is word 1 of them
pub laid : {B : Type 0} {words_of : B → List ℕ} {n : ℕ} {b : B} {said words words' : List ℕ} → ((b : B) → length (words_of b) ≡ n) → n ≤ length words → said ≡ words_of b
    → words' ≡ pick (leb (length said) (length words)) (said ++ drop (length said) words) words → Told words_of (number_in words_of) b words words' (get_or said 1 0)
laid long h e q = laid_by long h (ap (λ w. get_or w 1 0) e) e q

-- every answer has as many words as its function says, and its promise determines the number, the words and every other lent place

pub label-long : (l : Result Label Refusal) → length (label_words l) ≡ label_word_count
unfolding label_words
label-long (Ok (label.Name n)) = refl
label-long (Ok (label.Fallback n)) = refl
label-long (Err f) = refl

pub label-told-determined : LabelToldDetermined
label-told-determined lengths numbers flags block fall row words words' words'' r r' p q =
    (p.words_are ∙ sym q.words_are, p.number_is ∙ sym q.number_is)

pub patched-told-determined : PatchedToldDetermined
patched-told-determined rows base w out out' out'' words words' words'' r r' p q =
    (p.places-are ∙ sym q.places-are, p.told.words_are ∙ sym q.told.words_are, p.told.number_is ∙ sym q.told.number_is)

pub count_long : (c : Count) → length (count_words c) ≡ count_word_count
unfolding count_words
count_long (Ok n) = refl
count_long (Err f) = refl

pub count-told-determined : CountToldDetermined
count-told-determined packed n words words' words'' r r' p q = (p.words_are ∙ sym q.words_are, p.number_is ∙ sym q.number_is)

pub built-long : (b : Built) → length (built_words b) ≡ built_word_count
unfolding built_words
built-long (Ok s) = refl
built-long (Err f) = refl

-- what building told: too few words, or what was built laid into them
module _ {input first at counts words : List ℕ} where
  pub index-few : length words < built_word_count → IndexTold input first at counts first at counts words words too_few_words
  index-few h = record { told = few built-long h; columns-are = rw (lt-leb built_word_count (length words) h) }

  pub index-told : {first' at' counts' words' : List ℕ} {b : Built} {r : ℕ} → BuiltIn input first at counts first' at' counts' b → built_word_count ≤ length words
      → Told built_words (number_in built_words) b words words' r → IndexTold input first at counts first' at' counts' words words' r
  index-told q h p = record { told = told q.answer p; columns-are = rw (le-leb built_word_count (length words) h) q.columns }

pub index-told-determined : IndexToldDetermined
index-told-determined input first at counts f o n f' o' n' words words' words'' r r' p q =
    let e = p.columns-are ∙ sym q.columns-are in (
      ap (λ (c : Columns). c.firsts) e,
      ap (λ (c : Columns). c.offsets) e,
      ap (λ (c : Columns). c.counts) e,
      p.told.words_are ∙ sym q.told.words_are,
      p.told.number_is ∙ sym q.told.number_is,
    )

pub found-long : (v : Found) → length (found_words v) ≡ found_word_count
unfolding found_words
found-long (Ok e) = refl
found-long (Err f) = refl

pub look-up-told-determined : LookUpToldDetermined
look-up-told-determined input c row words words' words'' r r' p q = (p.words_are ∙ sym q.words_are, p.number_is ∙ sym q.number_is)

pub preview-long : (p : Preview) → length (preview_words p) ≡ preview_word_count
unfolding preview_words
preview-long (Ok n) = refl
preview-long (Err f) = refl

pub read-from-told-determined : ReadFromToldDetermined
read-from-told-determined input c row flag rows rows' rows'' words words' words'' r r' p q =
    (p.places-are ∙ sym q.places-are, p.told.words_are ∙ sym q.told.words_are, p.told.number_is ∙ sym q.told.number_is)

pub salvage-long : (m : Outcome) → length (salvage_words m) ≡ salvage_word_count
unfolding salvage_words
salvage-long (Ok n) = refl
salvage-long (Err f) = refl

pub salvage-told-determined : SalvageToldDetermined
salvage-told-determined input starts counts fill flag out out' out'' lines lines' lines'' words words' words'' r r' p q = (
  p.stream-told.places-are ∙ sym q.stream-told.places-are,
  p.report-told.places-are ∙ sym q.report-told.places-are,
  p.stream-told.told.words_are ∙ sym q.stream-told.told.words_are,
  p.stream-told.told.number_is ∙ sym q.stream-told.told.number_is,
)

pub convert-long : (c : Result Conversion Refusal) → length (convert_words c) ≡ convert_word_count
unfolding convert_words
convert-long (Ok n) = refl
convert-long (Err f) = refl

pub convert-told-determined : ConvertToldDetermined
convert-told-determined input flag out out' out'' words words' words'' r r' p q =
    (p.places-are ∙ sym q.places-are, p.told.words_are ∙ sym q.told.words_are, p.told.number_is ∙ sym q.told.number_is)

pub check-long : (c : Option Columned) → length (check_words c) ≡ check_word_count
unfolding check_words
check-long (Some n) = refl
check-long None = refl

pub check-told-determined : CheckToldDetermined
check-told-determined rows flag c room words words' words'' r r' p q = (p.words_are ∙ sym q.words_are, p.number_is ∙ sym q.number_is)

pub column-long : (a : Result ColumnRuns Refusal) → length (column_words a) ≡ column_word_count
unfolding column_words
column-long (Ok (column.Planned n)) = refl
column-long (Ok (column.Direct n)) = refl
column-long (Err f) = refl

pub column-told-determined : ColumnToldDetermined
column-told-determined rows flag c out out' out'' words words' words'' r r' p q =
    (p.places-are ∙ sym q.places-are, p.told.words_are ∙ sym q.told.words_are, p.told.number_is ∙ sym q.told.number_is)
