-- Rows in batches, from a row position (FORMAT.md, "Rows in batches"): the byte where a run begins, and how many rows to skip from there.
-- Assumes nothing.
use Rattle.std.specs.Prelude.{ℕ, ◌+◌, ◌-◌, min, Bool, List, [], ◌∷◌, length, take, drop, leb, ltb, ℤ}
use Rattle.format.specs.declared.Refusal.{Refusal}
use Rattle.format.specs.Answers.{refusing, refusal}
use Rattle.format.specs.Fields.{pick}
use Rattle.format.specs.Runs.{Description, row_count, layout, joined}
use Rattle.format.specs.Streams.{Reading, whole, broken, stream, runs_of, total_rows, joined_rows}

pub record Position : Type 0 where
  pub run : ℕ
  pub skip : ℕ

-- a batch: its rows, and the position of the row after them
pub record RowBatch : Type 0 where
  pub rows : List ℤ
  pub next : Position

-- what a call comes to: a batch, the end, or a refusal
pub data BatchOutcome : Type 0 where
  gives : RowBatch → BatchOutcome
  ended : BatchOutcome
  refuses : Refusal → BatchOutcome

-- The position of row k of some runs, the first of which begins at a byte, made plain: the run that holds the row, and the rows of that
-- run before it, fewer than it has. If no run holds it, it is the byte after the last of them and 0.
unfoldable pub position_of : ℕ → ℕ → List Description → Position
position_of at k [] = record { run = at; skip = 0 }
position_of at k (d ∷ ds) =
    pick (ltb k (row_count d)) (record { run = at; skip = k }) (position_of (at + length (layout d)) (k - row_count d) ds)

-- the rows from a position on, of the stream that is read from its byte on: those of the runs before the end or the first refusal
abbrev pub rows_left : Bool → Position → Reading → List ℤ
rows_left signed p m = drop p.skip (joined_rows signed (runs_of m))

-- how many they are
abbrev pub count_left : Position → Reading → ℕ
count_left p m = total_rows (runs_of m) - p.skip

-- the first n of them, or all if there are fewer
abbrev pub first_rows : Bool → ℕ → Position → Reading → RowBatch
first_rows signed n p m = record {
  rows = take n (rows_left signed p m);
  next = position_of p.run (p.skip + min n (count_left p m)) (runs_of m);
}

-- The answer if there are none: the stream's own refusal, if it is broken. A whole stream has ended, or has no such row (16) if more rows
-- are to be skipped than there are.
abbrev pub empty_of : Position → Reading → BatchOutcome
empty_of p (whole ds) = pick (ltb (total_rows ds) p.skip) (refuses (refusing 16 0)) ended
empty_of p (broken ds r rest) = refuses (refusal (p.run + length (joined ds)) (length rest) r)

abbrev pub batch_of : Bool → ℕ → Position → Reading → BatchOutcome
batch_of signed n p m = pick (leb (total_rows (runs_of m)) p.skip) (empty_of p m) (gives (first_rows signed n p m))

-- the stream from a position's byte on: past the end of the input it is empty
abbrev pub reading_at : List ℕ → Position → Reading
reading_at bs p = stream (drop p.run bs)

-- A CALL with n places
unfoldable pub batch : Bool → ℕ → List ℕ → Position → BatchOutcome
batch signed n bs p = batch_of signed n p (reading_at bs p)
