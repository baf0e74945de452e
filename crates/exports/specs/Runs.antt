-- What the functions of one run, of a stream, of booleans, of a byte value and of the writer promise: the answer's words and number, and the rows or bytes of
-- the output at exit, for every input and every output. Assumes nothing.
use Rattle.std.specs.Prelude.{◌≡◌, ℕ, zero, suc, ◌-◌, Bool, List, ◌++◌, map, length, drop, ltb, ℤ}
use Rattle.format.specs.declared.Form.{Form}
use Rattle.format.specs.declared.Form.TheVariants.{ShortRepeat, Direct, FixedDelta, PackedDelta}
use Rattle.format.specs.Runs.{Description}
use Rattle.format.specs.Rows.{as_u64}
use Rattle.format.specs.Parse.{Parsed, parse, into, unless}
use Rattle.format.specs.Streams.{Reading, read_all, runs_of, total_rows, joined_rows}
use Rattle.format.specs.Answers.{Answer, answer_number, stream_number}
use Rattle.format.specs.Promises.{answer_of, run_places, stream_answer}
use Rattle.format.specs.Booleans.{booleans_into, booleans_answer, booleans_places}
use Rattle.format.specs.ByteValues.{byte_value, value_answer}
use Rattle.format.specs.Writing.{writing, bytes_in}
use Rattle.answer_words.specs.Words.{answer_words, stream_words, Told, ToldOf}
use Rattle.exports.specs.RowBytes.{is_signed}

-- ONE RUN from a position on
abbrev pub RunTold : List ℕ → ℕ → ℕ → List ℤ → List ℤ → List ℕ → List ℕ → ℕ → Type 0
RunTold input at flag rows rows' words words' r =
    let m = into (length rows) (parse (drop at input)) in
    ToldOf answer_words answer_number (answer_of at (length input - at) m) words words' r (run_places (is_signed flag) rows m) rows rows'

-- the rows of the runs that were read, joined, in the first places, and what stood in the others
abbrev pub stream_places : Bool → List ℤ → Reading → List ℤ
stream_places signed rows m = joined_rows signed (runs_of m) ++ drop (total_rows (runs_of m)) rows

-- THE RUNS from a position to the end, or to the first refusal
abbrev pub StreamTold : List ℕ → ℕ → ℕ → List ℤ → List ℤ → List ℕ → List ℕ → ℕ → Type 0
StreamTold input at flag rows rows' words words' r =
    let m = read_all (length rows) (drop at input) in
    ToldOf stream_words stream_number (stream_answer at m) words words' r (stream_places (is_signed flag) rows m) rows rows'

-- n BOOLEANS from a position on
abbrev pub BooleansTold : List ℕ → ℕ → ℕ → List ℕ → List ℕ → List ℕ → List ℕ → ℕ → Type 0
BooleansTold input at n out out' words words' r =
    let m = booleans_into (length out) n (drop at input) in
    ToldOf answer_words answer_number (booleans_answer at (length input - at) n m) words words' r (booleans_places n out m) out out'

-- A VALUE of n bytes at a position: it is the n bytes there, and nothing but the words is lent
abbrev pub ValueTold : List ℕ → ℕ → ℕ → List ℕ → List ℕ → ℕ → Type 0
ValueTold input at n words words' r =
    let m = byte_value n (drop at input) in
    Told answer_words answer_number (value_answer at (length input - at) n m) words words' r

-- the form that a number stands for
unfoldable pub form_of : ℕ → Form
form_of zero = ShortRepeat
form_of (suc zero) = Direct
form_of (suc (suc zero)) = FixedDelta
form_of (suc (suc (suc n))) = PackedDelta

-- a number that is no form's is refused with 10, whatever the rows are
abbrev pub writing_by : Bool → ℕ → ℕ → List ℕ → ℕ → Parsed Description
writing_by signed form w rs places = unless (ltb 3 form) 10 (writing signed (form_of form) w rs places)

pub record WrittenBy (rows : List ℤ) (signed : Bool) (form w : ℕ) (out out' : List ℕ) (r : Answer) : Type 0 where
  pub answer : r ≡ answer_of 0 0 (writing_by signed form w (map as_u64 rows) (length out))
  pub places : out' ≡ bytes_in out (writing_by signed form w (map as_u64 rows) (length out))

-- A RUN WRITTEN
abbrev pub WriteTold : List ℤ → ℕ → ℕ → ℕ → List ℕ → List ℕ → List ℕ → List ℕ → ℕ → Type 0
WriteTold rows flag form w out out' words words' r =
    let m = writing_by (is_signed flag) form w (map as_u64 rows) (length out) in
    ToldOf answer_words answer_number (answer_of 0 0 m) words words' r (bytes_in out m) out out'
