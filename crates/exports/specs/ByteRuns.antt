-- What `orc_write_booleans`, `orc_write_bytes` and the sizes of both promise: the number that comes back, and every byte and word at exit, for all flags and
-- bytes. Assumes nothing.
use Rattle.std.specs.Prelude.{◌≡◌, ℕ, List, [], ◌∷◌, length, ltb, Ok, Err}
use Rattle.format.specs.declared.Kind.TheVariants.{Booleans}
use Rattle.format.specs.Fields.{pick}
use Rattle.format.specs.Answers.{ran, refused_at, answer_number}
use Rattle.byte_writer.specs.Choice as choice
use Rattle.byte_writer.specs.Flags.{flag_bytes}
use Rattle.byte_writer.specs.Written.{BytesAnswer, wrote_bytes, refused_with, in_front}
use Rattle.answer_words.specs.Words.{answer_words, ToldOf}
use Rattle.exports.specs.Numbers.{number_in}

-- BOOLEANS WRITTEN: kind booleans, width 1, the flags as rows, and the bytes written
abbrev pub BooleansWrittenTold : List ℕ → List ℕ → List ℕ → List ℕ → List ℕ → ℕ → Type 0
BooleansWrittenTold flags out out' words words' r =
    let w = choice.written (flag_bytes flags) in
    ToldOf answer_words answer_number (pick (ltb (length out) (length w)) (refused_at 8 0) (ran Booleans 1 (length flags) (length w))) words words' r
    (pick (ltb (length out) (length w)) out (in_front w out)) out out'

-- word 0 is the case: 1 done, 2 refused; words 1 and 2 are the refusal's number and place, 0 unless refused; words 3 and 4 are how many bytes were taken, and
-- how many were written, 0 if refused
unfoldable pub byte_run_words : BytesAnswer → List ℕ
byte_run_words (Ok w) = 1 ∷ 0 ∷ 0 ∷ w.rows.rows ∷ w.size.bytes ∷ []
byte_run_words (Err f) = 2 ∷ f.number ∷ f.place.bytes ∷ 0 ∷ 0 ∷ []

abbrev pub byte_run_word_count : ℕ
byte_run_word_count = 5

-- BYTES WRITTEN
abbrev pub BytesWrittenTold : List ℕ → List ℕ → List ℕ → List ℕ → List ℕ → ℕ → Type 0
BytesWrittenTold bytes out out' words words' r =
    let w = choice.written bytes in
    ToldOf byte_run_words (number_in byte_run_words) (pick (ltb (length out) (length w)) (refused_with 8) (wrote_bytes (length bytes) (length w))) words words' r
    (pick (ltb (length out) (length w)) out (in_front w out)) out out'

-- ---- any two outcomes that a promise allows are equal

abbrev pub BooleansWrittenToldDetermined : Type 0
BooleansWrittenToldDetermined =
    (flags out out' out'' words words' words'' : List ℕ) (r r' : ℕ)
    → BooleansWrittenTold flags out out' words words' r → BooleansWrittenTold flags out out'' words words'' r'
    → (out' ≡ out'') × (words' ≡ words'') × (r ≡ r')

abbrev pub BytesWrittenToldDetermined : Type 0
BytesWrittenToldDetermined =
    (bytes out out' out'' words words' words'' : List ℕ) (r r' : ℕ)
    → BytesWrittenTold bytes out out' words words' r → BytesWrittenTold bytes out out'' words words'' r'
    → (out' ≡ out'') × (words' ≡ words'') × (r ≡ r')
