-- For the functions of the code: the run that begins at a byte, what seeking a position finds, and what a part of the work gives.
-- Assumes nothing.
use Rattle.std.specs.Prelude.{◌≡◌, ℕ, ◌+◌, ◌<◌, ◌≤◌, Bool, List, [], ◌∷◌, length, take, drop, ℤ, Result, Ok, Err}
use Rattle.format.specs.declared.Run.{Run}
use Rattle.format.specs.Fields.{two64}
use Rattle.format.specs.Rows.{i64_rows}
use Rattle.format.specs.Runs.{Description, row_count, layout}
use Rattle.format.specs.Parse.{got, parse}
use Rattle.format.specs.Streams.{whole, after, stream}
use Rattle.batches.specs.Batches.{Position, RowBatch, refuses, first_rows, batch}
use Rattle.batches.specs.BatchPromise.{position_in, batch_read_as, batch_read_of, laid_over}
use Rattle.batches.specs.declared.RowPosition.{RowPosition}
use Rattle.batches.specs.declared.BatchRead.{BatchRead}
use Rattle.format.specs.declared.Refusal.{Refusal}

-- a run begins at a byte of the input
pub record Stands (s : List ℕ) (p : ℕ) (d : Description) : Type 0 where
  pub parsed : parse (drop p s) ≡ got d (drop (p + length (layout d)) s)
  pub onward : stream (drop p s) ≡ after d (stream (drop (p + length (layout d)) s))
  pub within : p + length (layout d) ≤ length s
  pub some_bytes : 1 ≤ length (layout d)
  pub some : 1 ≤ row_count d
  pub few : row_count d ≤ 512

-- .. and has more rows than are to be skipped
pub record RunHolds (s : List ℕ) (p : RowPosition) : Type 0 where
  pub run : Description
  pub stands : Stands s p.run.bytes run
  pub skips : p.skip.rows < row_count run

-- two positions of the same row have the same batches
pub record SameRow (s : List ℕ) (p q : Position) : Type 0 where
  pub same : (signed : Bool) (n : ℕ) → batch signed n s p ≡ batch signed n s q

-- Seeking a position finds its row: within a run, or with no row to skip at a byte, where a run begins or none does; or else the call is
-- refused.
abbrev pub Finds : List ℕ → RowPosition → Result RowPosition Refusal → Type 0
Finds s p (Ok q) = (0 < q.skip.rows → RunHolds s q) × SameRow s (position_in p) (position_in q)
Finds s p (Err f) = (signed : Bool) (n : ℕ) → batch signed n s (position_in p) ≡ refuses f

-- rows that stand before those of a batch
abbrev pub more : ℕ → BatchRead → BatchRead
more k r = batch_read_as (k + r.rows.rows) r.next.run.bytes r.next.skip.rows

-- a batch is read: its answer, and the places
pub record Reads (g : RowBatch) (out out' : List ℤ) (r : BatchRead) : Type 0 where
  pub answer : r ≡ batch_read_of g
  pub places : out' ≡ laid_over g.rows out

-- A run is read aside: its rows are the first of some places, and more than are to be skipped ..
pub record HeldRun (run : Run) (held : List ℤ) (p : RowPosition) : Type 0 where
  pub skips : p.skip.rows < run.rows.rows
  pub holds-all : run.rows.rows ≤ length held
  pub small : p.run.bytes + run.consumed.bytes < two64

-- .. and the others are laid, as many as there are places
pub record PartLaid (run : Run) (held : List ℤ) (p : RowPosition) (out out' : List ℤ) (r : BatchRead) : Type 0 where
  pub laid : (signed : Bool) (d : Description) → run.rows.rows ≡ row_count d → run.consumed.bytes ≡ length (layout d)
      → take (row_count d) held ≡ i64_rows signed d
      → Reads (first_rows signed (length out) (position_in p) (whole (d ∷ []))) out out' r

-- a batch of the run at a byte alone
pub record RunPart (s : List ℕ) (p : RowPosition) (signed : Bool) (out out' : List ℤ) (r : BatchRead) : Type 0 where
  pub read : (d : Description) → Stands s p.run.bytes d
      → Reads (first_rows signed (length out) (position_in p) (whole (d ∷ []))) out out' r

-- .. and of the stream from a position on
pub record BatchFrom (s : List ℕ) (p : Position) (signed : Bool) (out out' : List ℤ) (r : BatchRead) : Type 0 where
  pub read : Reads (first_rows signed (length out) p (stream (drop p.run s))) out out' r
