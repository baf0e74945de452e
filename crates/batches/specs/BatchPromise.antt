-- What the call promises: its answer and every lent place, for every input, position, flag and number of places. Assumes nothing.
use Rattle.std.specs.Prelude.{◌≡◌, ℕ, Bool, List, ◌++◌, length, drop, ℤ, Option, Some, None, Result, Ok, Err}
use Rattle.batches.specs.Batches.{Position, RowBatch, BatchOutcome, gives, ended, refuses, batch}
use Rattle.batches.specs.declared.RowPosition.{RowPosition}
use Rattle.batches.specs.declared.BatchRead.{BatchRead}
use Rattle.format.specs.declared.Refusal.{Refusal}

-- what a call answers: rows, none at the end, or a refusal
abbrev pub Batch : Type 0
Batch = Result (Option BatchRead) Refusal

abbrev pub position_in : RowPosition → Position
position_in p = record { run = p.run.bytes; skip = p.skip.rows }

-- a batch in the code's words
abbrev pub batch_read_as : ℕ → ℕ → ℕ → BatchRead
batch_read_as rows run skip =
    record { rows = record { rows = rows }; next = record { run = record { bytes = run }; skip = record { rows = skip } } }

abbrev pub batch_read_of : RowBatch → BatchRead
batch_read_of g = batch_read_as (length g.rows) g.next.run g.next.skip

abbrev pub batch_answer : BatchOutcome → Batch
batch_answer (gives g) = Ok (Some (batch_read_of g))
batch_answer ended = Ok None
batch_answer (refuses f) = Err f

-- the rows in the first places, and what stood in the others
abbrev pub laid_over : List ℤ → List ℤ → List ℤ
laid_over rows out = rows ++ drop (length rows) out

-- a call that gives no batch changes no place
abbrev pub places_after : List ℤ → BatchOutcome → List ℤ
places_after out (gives g) = laid_over g.rows out
places_after out ended = out
places_after out (refuses f) = out

pub record RowsRead (input : List ℕ) (p : RowPosition) (signed : Bool) (out out' : List ℤ) (r : Batch) : Type 0 where
  pub answer : r ≡ batch_answer (batch signed (length out) input (position_in p))
  pub places : out' ≡ places_after out (batch signed (length out) input (position_in p))
