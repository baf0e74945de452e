-- A count of true booleans as words, and what `orc_count_true` promises: the number that comes back, and every lent word at exit, for all bytes and
-- every n. Assumes nothing.
use Rattle.std.specs.Prelude.{◌≡◌, ℕ, List, [], ◌∷◌, Ok, Err}
use Rattle.answer_words.specs.Words.{cut_case, cut_byte, Told}
use Rattle.exports.specs.Numbers.{number_in}
use Rattle.boolean_rle.specs.Ones.{Count, count_true}

-- word 0 is the case: 1 counted, 2 refused; words 1 and 2 are the refusal's number and place, 0 unless refused; word 3 is how many are
-- true, 0 where refused; word 4 is 1 where a field was cut, else 0, and word 5 the byte where it begins, 0 unless one was cut
unfoldable pub count_words : Count → List ℕ
count_words (Ok n) = 1 ∷ 0 ∷ 0 ∷ n ∷ 0 ∷ 0 ∷ []
count_words (Err f) = 2 ∷ f.number ∷ f.place.bytes ∷ 0 ∷ cut_case f.cut ∷ cut_byte f.cut ∷ []

-- how many words a count has
abbrev pub count_word_count : ℕ
count_word_count = 6

-- HOW MANY OF THE FIRST n BOOLEANS ARE TRUE, packed eight to a byte; nothing but the words is lent
abbrev pub CountTold : List ℕ → ℕ → List ℕ → List ℕ → ℕ → Type 0
CountTold packed n words words' r = Told count_words (number_in count_words) (count_true n packed) words words' r

-- any two outcomes that the promise allows are equal
abbrev pub CountToldDetermined : Type 0
CountToldDetermined =
    (packed : List ℕ) (n : ℕ) (words words' words'' : List ℕ) (r r' : ℕ) → CountTold packed n words words' r → CountTold packed n words words'' r'
    → (words' ≡ words'') × (r ≡ r')
