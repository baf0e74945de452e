-- What a salvage came to, as words, and what `orc_salvage` promises: the number that comes back, every lent word and both outputs at exit, for
-- every stream, all starts and counts, every fill row and every flag. Assumes nothing.
use Rattle.std.specs.Prelude.{◌≡◌, ℕ, List, [], ◌∷◌, length, ℤ, Ok, Err}
use Rattle.salvage.specs.Salvage.{Outcome, Call, salvaging, outcome_of, stream_in, report_in}
use Rattle.exports.specs.RowBytes.{is_signed}
use Rattle.answer_words.specs.Words.{ToldOf}
use Rattle.exports.specs.Numbers.{number_in}

-- word 0 is the case: 1 salvaged, 2 refused; words 1 and 2 are the refusal's number and place, 0 unless refused; words 3 and 4 are
-- how many bytes the new stream and the report have, 0 where refused
unfoldable pub salvage_words : Outcome → List ℕ
salvage_words (Ok n) = 1 ∷ 0 ∷ 0 ∷ n.stream.bytes ∷ n.report.bytes ∷ []
salvage_words (Err f) = 2 ∷ f.number ∷ f.place.bytes ∷ 0 ∷ 0 ∷ []

-- how many words that is
abbrev pub salvage_word_count : ℕ
salvage_word_count = 5

-- A STREAM SALVAGED: the words and the number, with the new stream in its output and the report in the other
module _ (input starts counts : List ℕ) (fill : ℤ) (flag : ℕ) (out out' lines lines' words words' : List ℕ) (r : ℕ) where
  abbrev pub called : Call
  called = salvaging (is_signed flag) fill input starts counts (length out) (length lines)

  pub record SalvageTold : Type 0 where
    pub stream-told : ToldOf salvage_words (number_in salvage_words) (outcome_of called) words words' r (stream_in out called) out out'
    pub report-told : ToldOf salvage_words (number_in salvage_words) (outcome_of called) words words' r (report_in lines called) lines lines'

-- any two outcomes that the promise allows are equal
abbrev pub SalvageToldDetermined : Type 0
SalvageToldDetermined =
    (input starts counts : List ℕ) (fill : ℤ) (flag : ℕ) (out out' out'' lines lines' lines'' words words' words'' : List ℕ) (r r' : ℕ)
    → SalvageTold input starts counts fill flag out out' lines lines' words words' r → SalvageTold input starts counts fill flag out out'' lines lines'' words words'' r'
    → (out' ≡ out'') × (lines' ≡ lines'') × (words' ≡ words'') × (r ≡ r')
