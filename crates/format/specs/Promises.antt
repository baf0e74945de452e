-- What the integer readers promise: the answer and every place of the caller's at exit, for every input, position, flag and places.
-- Assumes nothing.
use Rattle.std.specs.Prelude.{◌≡◌, ℕ, ◌+◌, ◌-◌, ◌*◌, Bool, List, [], ◌∷◌, ◌++◌, length, drop, ℤ, Some, None, Ok, Err}
use Rattle.format.specs.declared.Kind.{Kind}
use Rattle.format.specs.declared.Kind.TheVariants.{ShortRepeat, Direct, PatchedBase, Delta}
use Rattle.format.specs.declared.Run.{Run}
use Rattle.format.specs.Answers.{Answer, LastRun, Stream, running, refusal, read_whole, broke_at}
use Rattle.format.specs.Fields.{width, two64}
use Rattle.format.specs.Runs.{Description, short, direct, fixed, delta, patched, row_count, layout, joined}
use Rattle.format.specs.Rows.{i64_rows}
use Rattle.format.specs.Parse.{Parsed, end, got, refused, parse, into}
use Rattle.format.specs.Streams.{Reading, whole, broken, read_all, runs_of, total_rows, joined_rows}

-- ---- one run

-- fixed and packed delta are one kind
abbrev pub kind_of : Description → Kind
kind_of (short count value) = ShortRepeat
kind_of (direct code k) = Direct
kind_of (fixed rows first base) = Delta
kind_of (delta code first base k) = Delta
kind_of (patched code base pc gw k l) = PatchedBase

-- the width of its values in bits: 8 times the size for a short repeat, 0 for a fixed delta
abbrev pub width_of : Description → ℕ
width_of (short count value) = 8 * length value
width_of (direct code k) = width code
width_of (fixed rows first base) = 0
width_of (delta code first base k) = width code
width_of (patched code base pc gw k l) = width code

-- the run as an answer names it: its kind, width and rows, and the bytes of its layout
abbrev pub run_of : Description → Run
run_of d = running (kind_of d) (width_of d) (row_count d) (length (layout d))

-- the answer: the run, or the refusal at the byte where the run begins; `total` bytes stand there
abbrev pub answer_of : ℕ → ℕ → Parsed Description → Answer
answer_of at total end = Ok None
answer_of at total (got d rest) = Ok (Some (run_of d))
answer_of at total (refused r) = Err (refusal at total r)

-- the caller's places at exit: the rows in the first of them, the others as they were; a refused call leaves every place unchanged
abbrev pub run_places : Bool → List ℤ → Parsed Description → List ℤ
run_places signed out end = out
run_places signed out (got d rest) = i64_rows signed d ++ drop (row_count d) out
run_places signed out (refused r) = out

-- the answer r and the places out' at exit are those of m, which is what reading the `total` bytes at the position gives
pub record Gives (at total : ℕ) (signed : Bool) (m : Parsed Description) (out out' : List ℤ) (r : Answer) : Type 0 where
  pub answer : r ≡ answer_of at total (into (length out) m)
  pub places : out' ≡ run_places signed out (into (length out) m)

-- THE RUN READER: it reads from the position on; a position past the end is empty input
abbrev pub RunRead : List ℕ → ℕ → Bool → List ℤ → List ℤ → Answer → Type 0
RunRead input at signed out out' r = Gives at (length input - at) signed (parse (drop at input)) out out' r

-- THE MEASURE: the run reader's answer with room enough, and no places to write to
abbrev pub RunMeasured : List ℕ → ℕ → Answer → Type 0
RunMeasured input at r = r ≡ answer_of at (length input - at) (parse (drop at input))

-- ---- the stream

-- the last of some runs, or what is given if there are none
abbrev pub last_or : LastRun → List Description → LastRun
last_or before [] = before
last_or before (d ∷ ds) = last_or (Some (run_of d)) ds

abbrev pub last_of : List Description → LastRun
last_of ds = last_or None ds

-- "whole stream read", or the first refusal, at the byte where the refused run begins; with the counts and the last of the runs read
abbrev pub stream_answer : ℕ → Reading → Stream
stream_answer at (whole ds) = read_whole (total_rows ds) (length (joined ds)) (last_of ds)
stream_answer at (broken ds r rest) =
    broke_at (refusal (at + length (joined ds)) (length rest) r) (total_rows ds) (length (joined ds)) (last_of ds)

-- THE STREAM READER: it reads from the position on, as many runs as there are before a refusal
pub record StreamRead (input : List ℕ) (at : ℕ) (signed : Bool) (out out' : List ℤ) (r : Stream) : Type 0 where
  pub answer : r ≡ stream_answer at (read_all (length out) (drop at input))
  pub places : out' ≡
      joined_rows signed (runs_of (read_all (length out) (drop at input)))
      ++ drop (total_rows (runs_of (read_all (length out) (drop at input)))) out

-- THE STREAM'S MEASURE: the stream reader's answer with as many places as a count can name. That is room enough for every stream of less
-- than 2^55 bytes (`counted-all`); in a longer one, refusal 8 stands at the run whose rows would pass 2^64 - 1.
abbrev pub StreamMeasured : List ℕ → ℕ → Stream → Type 0
StreamMeasured input at r = r ≡ stream_answer at (read_all (two64 - 1) (drop at input))
