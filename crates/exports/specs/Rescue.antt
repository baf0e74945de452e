-- Rows rescued by positions, as words, and what `orc_rescue` promises: the number that comes back, and every row, verdict and word at exit,
-- for every input, all columns, every fill row and every flag. Assumes nothing.
use Rattle.std.specs.Prelude.{◌≡◌, ℕ, List, [], ◌∷◌, length, ℤ, Ok, Err}
use Rattle.rescue.specs.Rescue.{RescueOutcome, rescuing}
use Rattle.rescue.specs.RescuePromise.{Rescued, rescue_answer, rows_after, marks_after}
use Rattle.answer_words.specs.Words.{ToldOf}
use Rattle.exports.specs.RowBytes.{is_signed}
use Rattle.exports.specs.Numbers.{number_in}

-- word 0 is the case: 1 rescued, 2 refused; words 1 and 2 are the refusal's number and place, 0 unless refused; word 3 is how many rows
-- were written, and word 4 how many groups were kept, both 0 if refused
unfoldable pub rescue_words : Rescued → List ℕ
rescue_words (Ok n) = 1 ∷ 0 ∷ 0 ∷ n.rows.rows ∷ n.kept ∷ []
rescue_words (Err f) = 2 ∷ f.number ∷ f.place.bytes ∷ 0 ∷ 0 ∷ []

abbrev pub rescue_word_count : ℕ
rescue_word_count = 5

-- ROWS RESCUED: the words and the number, with the rows of all groups in one output and their verdicts in the other
module _ (input runs skips counts : List ℕ) (fill : ℤ) (flag : ℕ) (rows rows' : List ℤ) (marks marks' words words' : List ℕ) (r : ℕ) where
  abbrev pub called : RescueOutcome
  called = rescuing (is_signed flag) fill input runs skips counts (length rows) (length marks)

  pub record RescueTold : Type 0 where
    pub rows_told : ToldOf rescue_words (number_in rescue_words) (rescue_answer called) words words' r (rows_after rows called) rows rows'
    pub marks-told : ToldOf rescue_words (number_in rescue_words) (rescue_answer called) words words' r (marks_after marks called) marks marks'

-- any two outcomes that the promise allows are equal
abbrev pub RescueToldDetermined : Type 0
RescueToldDetermined =
    (input runs skips counts : List ℕ) (fill : ℤ) (flag : ℕ) (rows rows' rows'' : List ℤ) (marks marks' marks'' words words' words'' : List ℕ)
    (r r' : ℕ) → RescueTold input runs skips counts fill flag rows rows' marks marks' words words' r
    → RescueTold input runs skips counts fill flag rows rows'' marks marks'' words words'' r'
    → (rows' ≡ rows'') × (marks' ≡ marks'') × (words' ≡ words'') × (r ≡ r')
