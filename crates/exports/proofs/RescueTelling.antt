-- Rescued rows have as many words as their function says, and the promise determines the number, the words, every row and every verdict:
-- each is an equation. Assumes nothing.
use mathlib.Core.Path.{◌≡◌, refl}
use Prim.Native.Nat.{ℕ, ◌<◌, ◌≤◌}
use mathlib.Core.List.{List}
use lib.ListN.{length}
use lib.IntN.{ℤ}
use Rattle.rescue.specs.RescuePromise.{Rescued, RowsRescued}
use Rattle.std.specs.Prelude.{Ok, Err}
use Rattle.answer_words.specs.Words.{too_few_words, Told}
use Rattle.exports.specs.RowBytes.{is_signed}
use Rattle.exports.specs.Numbers.{number_in}
use Rattle.exports.specs.Rescue.{rescue_words, rescue_word_count, RescueTold, RescueToldDetermined}
use Rattle.exports.proofs.Telling.{few-of, told_of}
use Rattle.exports.proofs.BatchTelling.{told-of-one}

pub rescue-long : (a : Rescued) → length (rescue_words a) ≡ rescue_word_count
unfolding rescue_words
rescue-long (Ok n) = refl
rescue-long (Err f) = refl

-- too few words, or the answer laid into them
module _ {input runs skips counts : List ℕ} {fill : ℤ} {flag : ℕ} {rows : List ℤ} {marks words : List ℕ} where
  pub rescue-few : length words < rescue_word_count
      → RescueTold input runs skips counts fill flag rows rows marks marks words words too_few_words
  rescue-few h = record { rows_told = few-of rescue-long h; marks-told = few-of rescue-long h }

  pub rescue-told : {rows' : List ℤ} {marks' words' : List ℕ} {a : Rescued} {r : ℕ}
      → RowsRescued input (is_signed flag) runs skips counts fill rows rows' marks marks' a → rescue_word_count ≤ length words
      → Told rescue_words (number_in rescue_words) a words words' r
      → RescueTold input runs skips counts fill flag rows rows' marks marks' words words' r
  rescue-told w h t = record {
    rows_told = told_of rescue-long w.answer h w.rows_are t;
    marks-told = told_of rescue-long w.answer h w.marks-are t;
  }

pub rescue-told-determined : RescueToldDetermined
rescue-told-determined input runs skips counts fill flag rows rows' rows'' marks marks' marks'' words words' words'' r r' p q =
    let (rows_same, words_same, number_same) = told-of-one p.rows_told q.rows_told in
    let (marks-same, _, _) = told-of-one p.marks-told q.marks-told in
    (rows_same, marks-same, words_same, number_same)
