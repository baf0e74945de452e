-- What `orc_convert` promises: the number that comes back, and every lent byte and word at exit, for every input. Assumes nothing.
use Rattle.std.specs.Prelude.{◌≡◌, ℕ, List, [], ◌∷◌, length, Result, Ok, Err}
use Rattle.format.specs.declared.Refusal.{Refusal}
use Rattle.exports.specs.RowBytes.{is_signed}
use Rattle.answer_words.specs.Words.{cut_case, cut_byte, ToldOf}
use Rattle.exports.specs.Numbers.{number_in}
use Rattle.convert.specs.declared.Conversion.{Conversion}
use Rattle.convert.specs.Convert.{convert, told_as, outcome_bytes}

-- word 0 is the case: 1 converted, 2 refused; words 1 and 2 are the refusal's number and place, 0 unless refused; words 3 and 4 are
-- how many runs were altered and how many bytes the converted stream has, 0 where refused; word 5 is 1 where the input ends in a field of the
-- refused run, else 0, and word 6 the byte where that field begins, 0 where there is none
unfoldable pub convert_words : Result Conversion Refusal → List ℕ
convert_words (Ok c) = 1 ∷ 0 ∷ 0 ∷ c.altered ∷ c.bytes.bytes ∷ 0 ∷ 0 ∷ []
convert_words (Err f) = 2 ∷ f.number ∷ f.place.bytes ∷ 0 ∷ 0 ∷ cut_case f.cut ∷ cut_byte f.cut ∷ []

-- how many words it has
abbrev pub convert_word_count : ℕ
convert_word_count = 7

-- A STREAM CONVERTED
abbrev pub ConvertTold : List ℕ → ℕ → List ℕ → List ℕ → List ℕ → List ℕ → ℕ → Type 0
ConvertTold input flag out out' words words' r =
    let m = convert (is_signed flag) input (length out) in
    ToldOf convert_words (number_in convert_words) (told_as (length input) m) words words' r (outcome_bytes out m) out out'

-- any two outcomes that the promise allows are equal
abbrev pub ConvertToldDetermined : Type 0
ConvertToldDetermined =
    (input : List ℕ) (flag : ℕ) (out out' out'' words words' words'' : List ℕ) (r r' : ℕ)
    → ConvertTold input flag out out' words words' r → ConvertTold input flag out out'' words words'' r'
    → (out' ≡ out'') × (words' ≡ words'') × (r ≡ r')
