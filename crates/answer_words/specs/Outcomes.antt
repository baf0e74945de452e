-- Any two outcomes that a promise of this room allows are equal: the number or the reader that comes back, and every lent word at exit.
-- Assumes nothing.
use Rattle.std.specs.Prelude.{◌≡◌, ℕ, List, ◌++◌, length, drop, leb}
use Rattle.format.specs.declared.PartReader.{PartReader}
use Rattle.format.specs.declared.PartStep.{PartStep}
use Rattle.format.specs.Fields.{pick}
use Rattle.format.specs.Answers.{CutField, answer_number}
use Rattle.format.specs.Answers.{stream_number}
use Rattle.answer_words.specs.Words.{answer_words, stream_words, cut_case, cut_byte, Told}
use Rattle.answer_words.specs.Parts.{state_words, reader_of, StepTold}

-- of any kind of answer that is told in words, with words enough or too few
abbrev pub ToldDetermined : (B : Type 0) → (B → List ℕ) → (B → ℕ) → Type 0
ToldDetermined B words_of number_of =
    (b : B) (words words' words'' : List ℕ) (r r' : ℕ) → Told words_of number_of b words words' r → Told words_of number_of b words words'' r'
    → (words' ≡ words'') × (r ≡ r')

-- `put_answer`, `put_stream`, `parts::put_reader`
abbrev pub AnswerPutDetermined : Type 0
AnswerPutDetermined = ToldDetermined _ answer_words answer_number

abbrev pub StreamPutDetermined : Type 0
StreamPutDetermined = ToldDetermined _ stream_words stream_number

abbrev pub ReaderPutDetermined : Type 0
ReaderPutDetermined = ToldDetermined PartReader state_words (λ s. 0)

-- `parts::put_step`, `parts::put_taken`
abbrev pub StepToldDetermined : Type 0
StepToldDetermined =
    (step : PartStep) (state words state' state'' words' words'' : List ℕ) (r r' : ℕ)
    → StepTold step state state' words words' r → StepTold step state state'' words words'' r'
    → (state' ≡ state'') × (words' ≡ words'') × (r ≡ r')

-- ---- the promises that are equations

-- `lay`: what is left in the words that are lent
abbrev pub laid : List ℕ → List ℕ → List ℕ
laid said words = pick (leb (length said) (length words)) (said ++ drop (length said) words) words

abbrev pub LayDetermined : Type 0
LayDetermined = (said words words' words'' : List ℕ) → words' ≡ laid said words → words'' ≡ laid said words → words' ≡ words''

-- `parts::reader_of`, `cut_case`, `cut_byte`
abbrev pub ReaderOfDetermined : Type 0
ReaderOfDetermined = (state : List ℕ) (r r' : PartReader) → r ≡ reader_of state → r' ≡ reader_of state → r ≡ r'

abbrev pub CutCaseDetermined : Type 0
CutCaseDetermined = (field : CutField) (r r' : ℕ) → r ≡ cut_case field → r' ≡ cut_case field → r ≡ r'

abbrev pub CutByteDetermined : Type 0
CutByteDetermined = (field : CutField) (r r' : ℕ) → r ≡ cut_byte field → r' ≡ cut_byte field → r ≡ r'
