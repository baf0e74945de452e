-- An answer put into words, and what a call with lent words promises by it. Assumes nothing.
use mathlib.Core.Path.{◌≡◌, refl}
use Prim.Native.Nat.{ℕ, ◌<◌, ◌≤◌}
use mathlib.Core.List.{List}
use lib.ListN.{length}
use borrow.Author.Tests.{le-leb, lt-leb}
use Rattle.format.specs.Answers.{Answer, Stream}
use Rattle.answer_words.specs.Words.{answer_words, stream_words, word_count, stream_word_count, too_few_words, Put, Told}

-- over any answers whose words are counted
module _ {B : Type 0} {words_of : B → List ℕ} {number_of : B → ℕ} {n : ℕ} (long : (b : B) → length (words_of b) ≡ n) where
  -- too few words: nothing is touched
  pub few : {b : B} {words : List ℕ} → length words < n → Told words_of number_of b words words too_few_words
  few {b} {words} h = let e = lt-leb n (length words) h in record { number_is = rw (long b, e); words_are = rw (long b, e) }

  -- enough
  pub put : {b : B} {words words' : List ℕ} {r : ℕ} → n ≤ length words → Put words_of number_of b words words' r → Told words_of number_of b words words' r
  put {b} {words} h p =
      let e = le-leb n (length words) h in
      record { number_is = rw (long b, e) p.number_is; words_are = rw (long b, e) (rw (long b) at p.words_are) }

-- every answer has as many words as its function says

pub answer-long : (a : Answer) → length (answer_words a) ≡ word_count
unfolding answer_words
answer-long a = refl

pub stream-long : (s : Stream) → length (stream_words s) ≡ stream_word_count
unfolding stream_words
stream-long s = refl
