-- The reader in parts, by its functions' promises alone: the calls, one after another, and that what they give is what the whole-stream
-- reader gives of the joined bytes.
-- Assumes nothing.
use Rattle.std.specs.Prelude.{◌≡◌, ℕ, ◌≤◌, Bool, List, [], ◌∷◌, ◌++◌, map, length, take, drop, ℤ}
use Rattle.format.specs.Answers.{Stream}
use Rattle.format.specs.declared.ByteOffset.{ByteOffset}
use Rattle.format.specs.declared.Run as run
use Rattle.format.specs.declared.PartReader.{PartReader}
use Rattle.format.specs.declared.PartAnswer.TheVariants as said
use Rattle.format.specs.declared.PartStep.{PartStep}
use Rattle.format.specs.Digits.{AllBelow}
use Rattle.format.specs.Streams.{read_all, runs_of}
use Rattle.format.specs.Promises.{run_of, StreamRead}
use Rattle.format.specs.Rows.{i64_rows}
use Rattle.format.specs.Parts.{Handed, fresh, answered, Takes, Closes}
use Rattle.promises.specs.Parts.{NoRun, Stands, read_parts, joined_parts, starting, last_answer}

-- a run as a call gives it: its start, what the answer says of it, and its rows in the first places
pub record Shown : Type 0 where
  pub at : ℕ
  pub run : run.Run
  pub rows : List ℤ

abbrev pub shown : Bool → Handed → Shown
shown signed h = record { at = h.at; run = run_of h.run; rows = i64_rows signed h.run }

-- what a call is given: a buffer of at least 4,356 bytes, and at least 512 places
pub record Lent (buffer : List ℕ) (out : List ℤ) : Type 0 where
  pub bytes : AllBelow 256 buffer
  pub enough : 4356 ≤ length buffer
  pub places : 512 ≤ length out

-- one part, offered until it is all taken or refused; between the calls the buffer is left alone, and each call has places of its own
pub data Offers (signed : Bool) : PartReader → List ℕ → List ℕ → List Shown → PartReader → List ℕ → Type 0 where
  last : {s : PartReader} {part buffer buffer' : List ℕ} {out out' : List ℤ} {r : PartStep} → Lent buffer out
      → Takes s part buffer buffer' signed out out' r
      → NoRun r.answer → Offers signed s buffer part [] r.reader buffer'
  gives : {s t : PartReader} {part buffer buffer' b : List ℕ} {out out' : List ℤ} {r : PartStep} {at : ByteOffset}
      {x : run.Run} {hs : List Shown}
      → Lent buffer out → Takes s part buffer buffer' signed out out' r → r.answer ≡ said.Run at x
      → Offers signed r.reader buffer' (drop r.taken.bytes part) hs t b
      → Offers signed s buffer part (record { at = at.bytes; run = x; rows = take x.rows.rows out' } ∷ hs) t b

-- one part after another
pub data Offered (signed : Bool) : PartReader → List ℕ → List (List ℕ) → List Shown → PartReader → List ℕ → Type 0 where
  no_part : {s : PartReader} {buffer : List ℕ} → Offered signed s buffer [] [] s buffer
  a-part : {s t u : PartReader} {buffer b c p : List ℕ} {ps : List (List ℕ)} {hs ks : List Shown} → Offers signed s buffer p hs t b
      → Offered signed t b ps ks u c
      → Offered signed s buffer (p ∷ ps) (hs ++ ks) u c

-- From a fresh reader, whatever stood in the caller's buffer: the runs, with their starts and rows, and the answer of the closing call are
-- `read_parts`'s, which are the whole stream's.
abbrev pub Delivers : Type 0
Delivers = (signed : Bool) (ps : List (List ℕ)) (buffer b : List ℕ) (hs : List Shown) (t : PartReader) (out out' : List ℤ) (r : PartStep)
    → AllBelow 256 (joined_parts ps)
    → Offered signed fresh buffer ps hs t b → Lent b out → Closes t b signed out out' r
    → (hs ≡ map (shown signed) (read_parts ps).runs) × (r.answer ≡ answered (read_parts ps).answer)

-- THE WHOLE, of promises alone: the calls of the reader in parts, and one call of the stream reader over the joined bytes with room enough
-- for the rows. The rows are the same, and the answer; and each run has the start that the runs before it give.
abbrev pub rows_shown : List Shown → List ℤ
rows_shown [] = []
rows_shown (h ∷ hs) = h.rows ++ rows_shown hs

pub record AsStream (signed : Bool) (bytes : List ℕ) (hs : List Shown) (r : PartStep) (all all' : List ℤ) (w : Stream) : Type 0 where
  pub rows : all' ≡ rows_shown hs ++ drop (length (rows_shown hs)) all
  pub runs : hs ≡ map (shown signed) (starting 0 (runs_of (read_all (length all) bytes)))
  pub answer : r.answer ≡ answered (last_answer w)

abbrev pub AsStreamHolds : Type 0
AsStreamHolds = (signed : Bool) (ps : List (List ℕ)) (buffer b : List ℕ) (hs : List Shown) (t : PartReader) (out out' : List ℤ)
    (r : PartStep) → AllBelow 256 (joined_parts ps)
    → Offered signed fresh buffer ps hs t b → Lent b out → Closes t b signed out out' r
    → (all all' : List ℤ) (w : Stream) → StreamRead (joined_parts ps) 0 signed all all' w → length (rows_shown hs) ≤ length all
    → AsStream signed (joined_parts ps) hs r all all' w

-- And before the closing call: the reader stands refused, or is open, as the stream reader's answer over the bytes so far says.
abbrev pub StandsHolds : Type 0
StandsHolds = (signed : Bool) (ps : List (List ℕ)) (buffer b : List ℕ) (hs : List Shown) (t : PartReader) → AllBelow 256 (joined_parts ps)
    → Offered signed fresh buffer ps hs t b
    → (all all' : List ℤ) (w : Stream) → StreamRead (joined_parts ps) 0 signed all all' w → length (rows_shown hs) ≤ length all
    → Stands t.standing w
