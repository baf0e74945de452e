-- Any two outcomes that a promise of this room allows are equal: the answer
-- and every lent place at exit, of bad lines and too little room too.
-- Assumes nothing.
use Rattle.std.specs.Prelude.{◌≡◌, ℕ, List, ℤ, Option}
use Rattle.format.specs.Answers.{Answer}
use Rattle.lines.specs.Line.{Answered, LineRead}

-- `answer_line`: how many bytes the answer has, and every byte of the output
abbrev pub AnswerLineDetermined : Type 0
AnswerLineDetermined =
    (line out out' out'' : List ℕ) (r r' : ℕ) → Answered line out out' r → Answered line out out'' r' → (r ≡ r') × (out' ≡ out'')

-- `read_line`: what is read, and every place of the rows
abbrev pub ReadLineDetermined : Type 0
ReadLineDetermined =
    (line : List ℕ) (out out' out'' : List ℤ) (r r' : Option Answer) → LineRead line out out' r → LineRead line out out'' r'
    → (r ≡ r') × (out' ≡ out'')
