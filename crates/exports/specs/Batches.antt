-- Batches as words, and what `orc_read_rows`, `orc_read_flags` and `orc_read_bytes` promise: the number that comes back, and every row, flag, byte and word
-- at exit, for every input, position and count. Assumes nothing.
use Rattle.std.specs.Prelude.{◌≡◌, ℕ, ◌-◌, List, [], ◌∷◌, length, ℤ, Ok, Err, Some, None}
use Rattle.batches.specs.Batches.{batch}
use Rattle.batches.specs.BatchPromise as rows
use Rattle.boolean_rle.specs.Batches as run
use Rattle.boolean_rle.specs.declared.positions.BytePosition.{BytePosition}
use Rattle.boolean_rle.specs.declared.positions.FlagPosition.{FlagPosition}
use Rattle.boolean_rle.specs.Batches.{ByteBatch, FlagBatch}
use Rattle.answer_words.specs.Words.{cut_case, cut_byte, ToldOf}
use Rattle.exports.specs.RowBytes.{is_signed}
use Rattle.exports.specs.Numbers.{number_in}

-- ---- ROWS

-- word 0 is the case: 0 end, 1 rows, 2 refused; words 1 and 2 are the refusal's number and place; word 3 is how many rows were read, words 4 and 5 are the
-- position after them: the byte of its run, and the rows to skip; word 6 is 1 if the input ends in a field of the refused run, and word 7 the byte where
-- that field begins. A word that the case does not have is 0.
unfoldable pub rows_words : rows.Batch → List ℕ
rows_words (Ok (Some b)) = 1 ∷ 0 ∷ 0 ∷ b.rows.rows ∷ b.next.run.bytes ∷ b.next.skip.rows ∷ 0 ∷ 0 ∷ []
rows_words (Ok None) = 0 ∷ 0 ∷ 0 ∷ 0 ∷ 0 ∷ 0 ∷ 0 ∷ 0 ∷ []
rows_words (Err f) = 2 ∷ f.number ∷ f.place.bytes ∷ 0 ∷ 0 ∷ 0 ∷ cut_case f.cut ∷ cut_byte f.cut ∷ []

abbrev pub rows_word_count : ℕ
rows_word_count = 8

-- THE ROWS from a position on, as many as there are places
abbrev pub RowsTold : List ℕ → ℕ → ℕ → ℕ → List ℤ → List ℤ → List ℕ → List ℕ → ℕ → Type 0
RowsTold input at skip flag out out' words words' r =
    let m = batch (is_signed flag) (length out) input (record { run = at; skip = skip }) in
    ToldOf rows_words (number_in rows_words) (rows.batch_answer m) words words' r (rows.places_after out m) out out'

-- ---- FLAGS

-- word 0 is the case: 1 flags, 2 refused; words 1 and 2 are the refusal's number and place; word 3 is how many flags were read, words 4, 5 and 6 are the
-- position after them: the byte of its run, the bytes and the bits to skip; words 7 and 8 are the cut field, as above
unfoldable pub flags_words : FlagBatch → List ℕ
flags_words (Ok b) = 1 ∷ 0 ∷ 0 ∷ b.rows.rows ∷ b.next.run.bytes ∷ b.next.bytes.bytes ∷ b.next.bits ∷ 0 ∷ 0 ∷ []
flags_words (Err f) = 2 ∷ f.number ∷ f.place.bytes ∷ 0 ∷ 0 ∷ 0 ∷ 0 ∷ cut_case f.cut ∷ cut_byte f.cut ∷ []

abbrev pub flags_word_count : ℕ
flags_word_count = 9

abbrev pub flag_position : ℕ → ℕ → ℕ → FlagPosition
flag_position at bytes bits = record { run = record { bytes = at }; bytes = record { bytes = bytes }; bits = bits }

-- n FLAGS from a position on, all or none
abbrev pub FlagsTold : List ℕ → ℕ → ℕ → ℕ → ℕ → List ℕ → List ℕ → List ℕ → List ℕ → ℕ → Type 0
FlagsTold input at bytes bits n out out' words words' r =
    let m = run.placed (length out) n (run.flags_from (flag_position at bytes bits) n input) in
    ToldOf flags_words (number_in flags_words) (run.flags_answer at (length input - at) n m) words words' r (run.places_after n out m) out out'

-- ---- BYTES: the same without bits

unfoldable pub bytes_words : ByteBatch → List ℕ
bytes_words (Ok b) = 1 ∷ 0 ∷ 0 ∷ b.rows.rows ∷ b.next.run.bytes ∷ b.next.bytes.bytes ∷ 0 ∷ 0 ∷ []
bytes_words (Err f) = 2 ∷ f.number ∷ f.place.bytes ∷ 0 ∷ 0 ∷ 0 ∷ cut_case f.cut ∷ cut_byte f.cut ∷ []

abbrev pub bytes_word_count : ℕ
bytes_word_count = 8

abbrev pub byte_position : ℕ → ℕ → BytePosition
byte_position at bytes = record { run = record { bytes = at }; bytes = record { bytes = bytes } }

-- n BYTES from a position on, all or none
abbrev pub BytesTold : List ℕ → ℕ → ℕ → ℕ → List ℕ → List ℕ → List ℕ → List ℕ → ℕ → Type 0
BytesTold input at bytes n out out' words words' r =
    let m = run.placed (length out) n (run.bytes_from (byte_position at bytes) n input) in
    ToldOf bytes_words (number_in bytes_words) (run.bytes_answer at (length input - at) n m) words words' r (run.places_after n out m) out out'

-- ---- any two outcomes that a promise allows are equal

abbrev pub RowsToldDetermined : Type 0
RowsToldDetermined =
    (input : List ℕ) (at skip flag : ℕ) (out out' out'' : List ℤ) (words words' words'' : List ℕ) (r r' : ℕ)
    → RowsTold input at skip flag out out' words words' r → RowsTold input at skip flag out out'' words words'' r'
    → (out' ≡ out'') × (words' ≡ words'') × (r ≡ r')

abbrev pub FlagsToldDetermined : Type 0
FlagsToldDetermined =
    (input : List ℕ) (at bytes bits n : ℕ) (out out' out'' words words' words'' : List ℕ) (r r' : ℕ)
    → FlagsTold input at bytes bits n out out' words words' r → FlagsTold input at bytes bits n out out'' words words'' r'
    → (out' ≡ out'') × (words' ≡ words'') × (r ≡ r')

abbrev pub BytesToldDetermined : Type 0
BytesToldDetermined =
    (input : List ℕ) (at bytes n : ℕ) (out out' out'' words words' words'' : List ℕ) (r r' : ℕ)
    → BytesTold input at bytes n out out' words words' r → BytesTold input at bytes n out out'' words words'' r'
    → (out' ≡ out'') × (words' ≡ words'') × (r ≡ r')
