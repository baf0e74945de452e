-- Answers as words, and words lent: what each word of an answer says, and what a call leaves in the words that it is lent (FORMAT.md, "Exported functions").
-- Assumes nothing.
use Rattle.std.specs.Prelude.{◌≡◌, ℕ, ◌-◌, List, [], ◌∷◌, ◌++◌, length, drop, leb, Some, None, Ok, Err}
use Rattle.format.specs.Fields.{pick, two64}
use Rattle.format.specs.Answers.{CutField, LastRun, Answer, Stream, kind_number, answer_number, answer_place, answer_cut, answer_width, answer_rows, answer_bytes, stream_number, stream_place, stream_cut, stream_rows, stream_bytes, stream_last}

-- ---- AN ANSWER AS WORDS: a word's meaning never changes, and what is added later stands after the last

-- the case: end, a run (or booleans, or a value), refused
abbrev pub answer_case : Answer → ℕ
answer_case (Ok None) = 0
answer_case (Ok (Some r)) = 1
answer_case (Err f) = 2

abbrev pub answer_kind : Answer → ℕ
answer_kind (Ok None) = 0
answer_kind (Ok (Some r)) = kind_number r.kind
answer_kind (Err f) = 0

-- the cut field: whether there is one, and the byte where it begins
abbrev pub cut_case : CutField → ℕ
cut_case None = 0
cut_case (Some b) = 1

abbrev pub cut_byte : CutField → ℕ
cut_byte None = 0
cut_byte (Some b) = b.bytes

unfoldable pub answer_words : Answer → List ℕ
answer_words a =
    -- 0: the case: 0 end, 1 a run, 2 refused
    answer_case a
    -- 1: the refusal's number, 0 unless refused
    ∷ answer_number a
    -- 2: the refusal's place, 0 unless refused
    ∷ answer_place a
    -- 3: the kind: 0 short repeat, 1 direct, 2 patched base, 3 delta, 4 booleans, 5 byte value; 0 for end and refused
    ∷ answer_kind a
    -- 4: rows, 0 for end and refused
    ∷ answer_rows a
    -- 5: bytes consumed, or of the writer, written; 0 for end and refused
    ∷ answer_bytes a
    -- 6: 1 where the input ends in a field, else 0
    ∷ cut_case (answer_cut a)
    -- 7: the byte where that field begins, 0 where there is none
    ∷ cut_byte (answer_cut a)
    -- 8: the width of the run's values in bits, 0 for end and refused
    ∷ answer_width a
    ∷ []

-- a stream is whole, or a run of it is refused: in both cases with the counts of the runs that were read, and the last of them
abbrev pub stream_case : Stream → ℕ
stream_case (Ok n) = 1
stream_case (Err s) = 2

-- the last run, as the answer that it would have by itself; end where no run was read
abbrev pub last_answer : LastRun → Answer
last_answer last = Ok last

unfoldable pub stream_words : Stream → List ℕ
stream_words s =
    -- 0: the case: 1 the whole stream was read, 2 a run was refused
    stream_case s
    -- 1: the refusal's number, 0 unless refused
    ∷ stream_number s
    -- 2: the refusal's place, 0 unless refused
    ∷ stream_place s
    -- 3: a stream is of no one kind
    ∷ 0
    -- 4: the rows of the runs that were read
    ∷ stream_rows s
    -- 5: their bytes
    ∷ stream_bytes s
    -- 6: 1 where the input ends in a field of the refused run, else 0
    ∷ cut_case (stream_cut s)
    -- 7: the byte where that field begins, 0 where there is none
    ∷ cut_byte (stream_cut s)
    -- 8: nor of one width
    ∷ 0
    -- 9: 1 where a run was read, else 0; the words behind it are the last one's, 0 where there is none
    ∷ answer_case (last_answer (stream_last s))
    -- 10: its kind
    ∷ answer_kind (last_answer (stream_last s))
    -- 11: the width of its values in bits
    ∷ answer_width (last_answer (stream_last s))
    -- 12: its rows
    ∷ answer_rows (last_answer (stream_last s))
    -- 13: its bytes
    ∷ answer_bytes (last_answer (stream_last s))
    ∷ []

-- how many words an answer has, and a stream's
abbrev pub word_count : ℕ
word_count = 9

abbrev pub stream_word_count : ℕ
stream_word_count = 14

-- the number of a call that was lent fewer
abbrev pub too_few_words : ℕ
too_few_words = two64 - 1

-- ---- WORDS LENT, of any kind of answer: its words are told by one function, and its number by another

module _ {B : Type 0} (words_of : B → List ℕ) (number_of : B → ℕ) where
  -- the answer's words in the first of the words lent, what stood in the others, and its number
  pub record Put (b : B) (words words' : List ℕ) (r : ℕ) : Type 0 where
    pub number_is : r ≡ number_of b
    pub words_are : words' ≡ words_of b ++ drop (length (words_of b)) words

  -- that, where there is a word for each of the answer's; and where the words are too few, the number that says so, and no word is touched
  pub record Told (b : B) (words words' : List ℕ) (r : ℕ) : Type 0 where
    pub number_is : r ≡ pick (leb (length (words_of b)) (length words)) (number_of b) too_few_words
    pub words_are : words' ≡ pick (leb (length (words_of b)) (length words)) (words_of b ++ drop (length (words_of b)) words) words

  -- .. and the other lent places: at exit `done`, or, where the words are too few, as they were
  pub record ToldOf {A : Type 0} (b : B) (words words' : List ℕ) (r : ℕ) (done places places' : List A) : Type 0 where
    pub told : Told b words words' r
    pub places-are : places' ≡ pick (leb (length (words_of b)) (length words)) done places
