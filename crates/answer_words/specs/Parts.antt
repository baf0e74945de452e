-- The reader in parts as words: its state, what a call does, and what is left in the words that are lent for both. Assumes nothing.
use Rattle.std.specs.Prelude.{◌≡◌, ℕ, zero, suc, ◌%◌, ◌<◌, Bool, false, List, [], ◌∷◌, ◌++◌, length, drop, get_or, leb, Some, None, Ok, Err}
use Rattle.format.specs.declared.Refusal.{Refusal}
use Rattle.format.specs.declared.Standing.{Standing}
use Rattle.format.specs.declared.Standing.TheVariants.{Opened, Broken, Closed}
use Rattle.format.specs.declared.PartReader.{PartReader}
use Rattle.format.specs.declared.PartAnswer.{PartAnswer}
use Rattle.format.specs.declared.PartAnswer.TheVariants.{Run, More, Refused, End}
use Rattle.format.specs.declared.PartStep.{PartStep}
use Rattle.format.specs.Fields.{pick}
use Rattle.format.specs.Answers.{CutField, Answer, answer_number, answer_place, answer_cut, answer_width, answer_rows, answer_bytes}
use Rattle.answer_words.specs.Words.{answer_kind, cut_case, cut_byte, too_few_words, Put}

-- ---- THE STATE AS WORDS

-- the refusal that a stopped reader repeats: none where it is open or closed
abbrev pub repeated : Standing → Answer
repeated Opened = Ok None
repeated (Broken f) = Err f
repeated Closed = Ok None

abbrev pub standing_case : Standing → ℕ
standing_case Opened = 0
standing_case (Broken f) = 1
standing_case Closed = 2

unfoldable pub state_words : PartReader → List ℕ
state_words s =
    -- 0: 0 open, 1 refused, any other closed (2 is written)
    standing_case s.standing
    -- 1: how many of the lent bytes are held
    ∷ s.held
    -- 2: where the unfinished run starts
    ∷ s.at.bytes
    -- 3: the refusal's number, modulo 256; 0 unless refused
    ∷ answer_number (repeated s.standing)
    -- 4: its place
    ∷ answer_place (repeated s.standing)
    -- 5: 0 where no field is cut, any other where one is (1 is written)
    ∷ cut_case (answer_cut (repeated s.standing))
    -- 6: the byte where that field begins, 0 where there is none
    ∷ cut_byte (answer_cut (repeated s.standing))
    ∷ []

abbrev pub state_word_count : ℕ
state_word_count = 7

-- the reader that words stand for: every list of words stands for one
unfoldable pub standing_of : ℕ → Refusal → Standing
standing_of zero f = Opened
standing_of (suc zero) f = Broken f
standing_of (suc (suc n)) f = Closed

unfoldable pub cut_of : ℕ → ℕ → CutField
cut_of zero b = None
cut_of (suc n) b = Some (record { bytes = b })

abbrev pub refusal_of : List ℕ → Refusal
refusal_of ws = record { number = get_or ws 3 0 % 256; place = record { bytes = get_or ws 4 0 }; cut = cut_of (get_or ws 5 0) (get_or ws 6 0) }

abbrev pub reader_of : List ℕ → PartReader
reader_of ws = record { held = get_or ws 1 0; at = record { bytes = get_or ws 2 0 }; standing = standing_of (get_or ws 0 0) (refusal_of ws) }

-- what a call leaves is what the next one reads, whatever stands behind it: a refusal's number is a byte
abbrev pub StateKept : Type 0
StateKept = (s : PartReader) (ws : List ℕ) → answer_number (repeated s.standing) < 256 → reader_of (state_words s ++ ws) ≡ s

-- ---- WHAT A CALL DOES, AS WORDS

-- the run or the refusal, as the answer that it would have by itself; end where there is neither
abbrev pub plain_answer : PartAnswer → Answer
plain_answer (Run at r) = Ok (Some r)
plain_answer More = Ok None
plain_answer (Refused f) = Err f
plain_answer End = Ok None

abbrev pub part_case : PartAnswer → ℕ
part_case (Run at r) = 1
part_case More = 3
part_case (Refused f) = 2
part_case End = 0

abbrev pub part_start : PartAnswer → ℕ
part_start (Run at r) = at.bytes
part_start More = 0
part_start (Refused f) = 0
part_start End = 0

abbrev pub part_number : PartStep → ℕ
part_number s = answer_number (plain_answer s.answer)

unfoldable pub part_words : PartStep → List ℕ
part_words s =
    let a : Answer = plain_answer s.answer in
    -- 0: the case: 0 the stream's end, 1 a run, 2 refused, 3 all taken and no run yet
    part_case s.answer
    -- 1 to 8: as in every answer's words
    ∷ answer_number a
    ∷ answer_place a
    ∷ answer_kind a
    ∷ answer_rows a
    ∷ answer_bytes a
    ∷ cut_case (answer_cut a)
    ∷ cut_byte (answer_cut a)
    ∷ answer_width a
    -- 9: where the run starts, counted from the first part modulo 2^64; 0 unless a run
    ∷ part_start s.answer
    -- 10: how many of the part's bytes were taken
    ∷ s.taken.bytes
    ∷ []

abbrev pub part_word_count : ℕ
part_word_count = 11

-- ---- BOTH, LEFT IN THE WORDS LENT

-- words enough for the state and for the answer
abbrev pub enough : List ℕ → List ℕ → Bool
enough state words = pick (leb state_word_count (length state)) (leb part_word_count (length words)) false

-- the answer's words and the reader's after the call, in the first of those lent, and what stood in the others
pub record PartPut (s : PartStep) (state state' words words' : List ℕ) (r : ℕ) : Type 0 where
  pub told : Put part_words part_number s words words' r
  pub left : state' ≡ state_words s.reader ++ drop state_word_count state

-- that, where there are words enough; and where there are too few of either, the number that says so, and no word of either is touched
pub record StepTold (s : PartStep) (state state' words words' : List ℕ) (r : ℕ) : Type 0 where
  pub number_is : r ≡ pick (enough state words) (part_number s) too_few_words
  pub words_are : words' ≡ pick (enough state words) (part_words s ++ drop part_word_count words) words
  pub state-is : state' ≡ pick (enough state words) (state_words s.reader ++ drop state_word_count state) state
