-- A label as words, and what `orc_label` promises: the number that comes back, and every lent word at exit, for all columns, blocks,
-- fallbacks and rows. Assumes nothing.
use Rattle.std.specs.Prelude.{◌≡◌, ℕ, List, [], ◌∷◌, ℤ, Result, Ok, Err}
use Rattle.format.specs.declared.Refusal.{Refusal}
use Rattle.labels.specs.declared.Label.{Label}
use Rattle.labels.specs.declared.Label.TheVariants.{Name, Fallback}
use Rattle.labels.specs.Labels.{label}
use Rattle.answer_words.specs.Words.{Told}
use Rattle.exports.specs.Numbers.{number_in}

-- word 0 is the case: 1 a name, 2 refused, 3 the fallback; words 1 and 2 are the refusal's number and place, 0 unless refused; word 3 is the byte of the
-- block where the name begins, 0 unless a name; word 4 is how many bytes the name or the fallback has, 0 where refused
unfoldable pub label_words : Result Label Refusal → List ℕ
label_words (Ok (Name n)) = 1 ∷ 0 ∷ 0 ∷ n.start.bytes ∷ n.size.bytes ∷ []
label_words (Ok (Fallback n)) = 3 ∷ 0 ∷ 0 ∷ 0 ∷ n.bytes ∷ []
label_words (Err f) = 2 ∷ f.number ∷ f.place.bytes ∷ 0 ∷ 0 ∷ []

-- how many words a label has
abbrev pub label_word_count : ℕ
label_word_count = 5

-- WHAT A ROW IS CALLED: the part follows from the words, and nothing but the words is lent
abbrev pub LabelTold : List ℤ → List ℤ → List ℕ → List ℕ → List ℕ → ℕ → List ℕ → List ℕ → ℕ → Type 0
LabelTold lengths numbers flags block fall row words words' r =
    Told label_words (number_in label_words) (label lengths numbers flags block fall row) words words' r

-- any two outcomes that the promise allows are equal
abbrev pub LabelToldDetermined : Type 0
LabelToldDetermined =
    (lengths numbers : List ℤ) (flags block fall : List ℕ) (row : ℕ) (words words' words'' : List ℕ) (r r' : ℕ)
    → LabelTold lengths numbers flags block fall row words words' r → LabelTold lengths numbers flags block fall row words words'' r'
    → (words' ≡ words'') × (r ≡ r')
