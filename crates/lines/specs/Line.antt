-- THE PROGRAM'S ANSWER to a line (FORMAT.md, "The programs"), and what `answer_line` promises.
-- Assumes nothing.
use Rattle.std.specs.Prelude.{◌≡◌, ℕ, ◌%◌, Bool, ◌||◌, not, List, [], ◌∷◌, ◌++◌, length, take, drop, get_or, ltb, eqb, ℤ, Some, None, Ok, Err, Option}
use Rattle.format.specs.Fields.{pick}
use Rattle.format.specs.Runs.{Description}
use Rattle.format.specs.Rows.{i64_rows}
use Rattle.format.specs.Parse.{Parsed, end, got, refused, parse, into}
use Rattle.format.specs.Promises.{answer_of, run_places}
use Rattle.format.specs.Answers.{Answer}
use Rattle.text.specs.Ascii.{ascii}
use Rattle.text.specs.Hexadecimal.{all_hex, hex_bytes}
use Rattle.text.specs.Decimal.{decimal, rows_text}

-- A line that is empty, odd, over 8,800 characters, not hexadecimal or with another flag (00 unsigned, 01 signed) is bad.
unfoldable pub bad_line : List ℕ → Bool
bad_line line =
    eqb (length line) 0
    || eqb (length line % 2) 1
    || ltb 8800 (length line)
    || not (all_hex line)
    || ltb 1 (get_or (hex_bytes line) 0 0)

-- The numbers after `run` are rows, bytes consumed, then the rows as i64.
abbrev pub run_text : ℕ → ℕ → List ℤ → List ℕ
run_text rows bytes values = ascii "run " ++ decimal rows ++ (ascii " " ++ decimal bytes) ++ rows_text values

-- the run reader's answer as text
unfoldable pub reply_text : Answer → List ℤ → List ℕ
reply_text (Ok None) values = ascii "end"
reply_text (Ok (Some r)) values = run_text r.rows.rows r.consumed.bytes values
reply_text (Err f) values = ascii "refused " ++ decimal f.number

-- the rows of what was read
abbrev pub rows_in : Bool → Parsed Description → List ℤ
rows_in signed end = []
rows_in signed (got d rest) = i64_rows signed d
rows_in signed (refused r) = []

-- what reading gives, as text; the run stands in the `total` bytes from byte 1 on
abbrev pub reading_text : ℕ → Bool → Parsed Description → List ℕ
reading_text total signed m = reply_text (answer_of 1 total m) (rows_in signed m)

-- The bytes of a line: none where it is bad.
unfoldable pub frame_of : List ℕ → List ℕ
frame_of line = pick (bad_line line) [] (hex_bytes line)

-- The first byte is the flag, the rest one run; bytes after it aren't read.
-- No run has more than 512 rows, so that 512 places are room for any.
unfoldable pub frame_text : List ℕ → List ℕ
frame_text [] = ascii "bad line"
frame_text (flag ∷ run) = reading_text (length run) (eqb flag 1) (into 512 (parse run))

-- the answer to a line, without its newline
unfoldable pub answer_text : List ℕ → List ℕ
answer_text line = frame_text (frame_of line)

-- with its newline
abbrev pub ended : List ℕ → List ℕ
ended text = text ++ ascii "\n"

-- room for any answer line
abbrev pub answer_room : ℕ
answer_room = 11310

-- the answer line: none where there is less room
unfoldable pub answer_line : ℕ → List ℕ → List ℕ
answer_line room line = pick (ltb room answer_room) [] (ended (answer_text line))

-- the first n places hold the bytes of a line
pub record Framed (line frame : List ℕ) (n : ℕ) : Type 0 where
  pub count : n ≡ length (frame_of line)
  pub bytes : take n frame ≡ frame_of line

-- WHAT `answer_line` PROMISES: the answer line stands in the first bytes, r is its length, and the other bytes keep their content
pub record Answered (line out out' : List ℕ) (r : ℕ) : Type 0 where
  pub count : r ≡ length (answer_line (length out) line)
  pub places : out' ≡ answer_line (length out) line ++ drop (length (answer_line (length out) line)) out

-- what is read of a frame, in so many places; and the places, which hold a run's rows by the frame's flag
unfoldable pub frame_reading : ℕ → List ℕ → Option Answer
frame_reading room [] = None
frame_reading room (flag ∷ run) = Some (answer_of 1 (length run) (into room (parse run)))

unfoldable pub frame_places : List ℤ → List ℕ → List ℤ
frame_places out [] = out
frame_places out (flag ∷ run) = run_places (eqb flag 1) out (into (length out) (parse run))

-- WHAT `read_line` PROMISES: what is read is that of the line's bytes, and so are the places
pub record LineRead (line : List ℕ) (out out' : List ℤ) (r : Option Answer) : Type 0 where
  pub answer : r ≡ frame_reading (length out) (frame_of line)
  pub places : out' ≡ frame_places out (frame_of line)
