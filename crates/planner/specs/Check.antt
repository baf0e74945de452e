-- THE CHECK (FORMAT.md, "Column writer"): a proposal of segments for a column of rows, when it is accepted, and what is written. Nothing
-- here says how segments are found.
-- Assumes nothing.
use Rattle.std.specs.Prelude.{Option, Some, None, Result, Ok, Err}
use Rattle.std.specs.Prelude.{◌≡◌, ℕ, zero, suc, ◌+◌, Bool, true, false, ◌&&◌, List, [], ◌∷◌, ◌++◌, map, length, take, drop, get_or, leb, eqb, ℤ}
use Rattle.format.specs.declared.Form.TheVariants.{ShortRepeat, Direct, FixedDelta, PackedDelta}
use Rattle.format.specs.Fields.{pick}
use Rattle.format.specs.Runs.{Description, joined}
use Rattle.format.specs.Rows.{as_u64}
use Rattle.format.specs.Parse.{plain, Parsed, end, got, refused}
use Rattle.format.specs.Streams.{total_rows}
use Rattle.format.specs.Answers.{refusing}
use Rattle.format.specs.Writing.{described, writing}
use Rattle.format.specs.PatchedWriting.{writing_patched}
use Rattle.planner.specs.declared.segment.Segment.{Segment}
use Rattle.planner.specs.declared.Columned.{Columned}
use Rattle.planner.specs.declared.ColumnRuns.{ColumnRuns}
use Rattle.format.specs.declared.Refusal.{Refusal}
use Rattle.planner.specs.declared.ColumnRuns.TheVariants as answer

-- ---- THE PROPOSAL: five columns, one entry a segment; columns of unequal length are no proposal

pub record Columns : Type 0 where
  pub starts : List ℕ
  pub counts : List ℕ
  pub forms : List ℕ
  pub widths : List ℕ
  pub bases : List ℕ

abbrev pub proposal : List ℕ → List ℕ → List ℕ → List ℕ → List ℕ → Columns
proposal starts counts forms widths bases = record { starts = starts; counts = counts; forms = forms; widths = widths; bases = bases }

abbrev pub equal_lengths : Columns → Bool
equal_lengths c =
    eqb (length c.counts) (length c.starts) && eqb (length c.forms) (length c.starts)
    && eqb (length c.widths) (length c.starts) && eqb (length c.bases) (length c.starts)

-- a segment is the k-th of each column: first row, rows, form (0 short repeat, 1 direct, 2 fixed delta, 3 packed delta, 4 patched), width
-- (bytes, code, code, code, W in bits), base (its 64 bits)
unfoldable pub segments_from : List ℕ → List ℕ → List ℕ → List ℕ → List ℕ → List Segment
segments_from [] counts forms widths bases = []
segments_from (start ∷ starts) counts forms widths bases =
    record { start = start; count = get_or counts 0 0; form = get_or forms 0 0; width = get_or widths 0 0; base = get_or bases 0 0 }
    ∷ segments_from starts (drop 1 counts) (drop 1 forms) (drop 1 widths) (drop 1 bases)

abbrev pub segments : Columns → List Segment
segments c = segments_from c.starts c.counts c.forms c.widths c.bases

-- each segment begins where the one before it ends, the first at row `at`, and the last ends with the last row
unfoldable pub covers : ℕ → ℕ → List Segment → Bool
covers rows at [] = eqb at rows
covers rows at (s ∷ ss) = eqb s.start at && covers rows (at + s.count) ss

-- ---- ITS RUNS, under a flag, of a column of rows

-- room for any run
abbrev pub any_run : ℕ
any_run = 4356

-- what the form's writer answers in so much room; a number that is no form is not accepted, and only patched runs have a base
unfoldable pub write_in : Bool → ℕ → ℕ → ℕ → List ℤ → ℕ → Parsed Description
write_in signed zero width base part room = writing signed ShortRepeat width (map as_u64 part) room
write_in signed (suc zero) width base part room = writing signed Direct width (map as_u64 part) room
write_in signed (suc (suc zero)) width base part room = writing signed FixedDelta width (map as_u64 part) room
write_in signed (suc (suc (suc zero))) width base part room = writing signed PackedDelta width (map as_u64 part) room
write_in signed (suc (suc (suc (suc zero)))) width base part room = writing_patched base width (map as_u64 part) room
write_in signed (suc (suc (suc (suc (suc n))))) width base part room = refused (plain 10)

-- of a segment's rows; and with room enough
abbrev pub run_in : Bool → List ℤ → Segment → ℕ → Parsed Description
run_in signed rows s room = write_in signed s.form s.width s.base (take s.count (drop s.start rows)) room

abbrev pub run_of : Bool → List ℤ → Segment → Parsed Description
run_of signed rows s = run_in signed rows s any_run

abbrev pub is_run : Parsed Description → Bool
is_run end = false
is_run (got d rest) = true
is_run (refused r) = false

abbrev pub before : Parsed Description → List Description → List Description
before end ds = ds
before (got d rest) ds = d ∷ ds
before (refused r) ds = ds

-- each segment's writer accepts it, and the runs
unfoldable pub all_runs : Bool → List ℤ → List Segment → Bool
all_runs signed rows [] = true
all_runs signed rows (s ∷ ss) = is_run (run_of signed rows s) && all_runs signed rows ss

unfoldable pub runs : Bool → List ℤ → List Segment → List Description
runs signed rows [] = []
runs signed rows (s ∷ ss) = before (run_of signed rows s) (runs signed rows ss)

-- ---- ACCEPTED exactly if the segments cover all rows in order with no overlap and no gap, each run's writer accepts its segment,
-- and the output has room
unfoldable pub accepted : Bool → List ℤ → Columns → ℕ → Bool
accepted signed rows c room =
    equal_lengths c && covers (length rows) 0 (segments c) && all_runs signed rows (segments c)
    && leb (length (joined (runs signed rows (segments c)))) room

-- ---- ELSE direct runs of 64 bits, 512 rows each and the rest last

-- 512 rows each, and the rest; in at most `fuel` parts
unfoldable pub parts : ℕ → List ℤ → List (List ℤ)
parts zero rows = []
parts (suc fuel) [] = []
parts (suc fuel) (z ∷ rows) = take 512 (z ∷ rows) ∷ parts fuel (drop 512 (z ∷ rows))

-- code 31 means 64 bits
unfoldable pub wide : Bool → List ℤ → List Description
wide signed rows = map (λ part. described signed Direct 31 (map as_u64 part)) (parts (length rows) rows)

-- ---- WHAT IS WRITTEN: the proposal's runs, or the direct runs; or refusal 8, and nothing

pub data Column : Type 0 where
  planned : List Description → Column
  direct : List Description → Column
  eight : Column

unfoldable pub column : Bool → List ℤ → Columns → ℕ → Column
column signed rows c room =
    pick (accepted signed rows c room) (planned (runs signed rows (segments c)))
    (pick (leb (length (joined (wide signed rows))) room) (direct (wide signed rows)) eight)

-- the lent bytes at exit: the runs in the first of them, and what stood in the others
abbrev pub column_bytes : List ℕ → Column → List ℕ
column_bytes out (planned ds) = joined ds ++ drop (length (joined ds)) out
column_bytes out (direct ds) = joined ds ++ drop (length (joined ds)) out
column_bytes out eight = out

-- ---- THE PROMISES

-- the answer tells of runs how many they are, their rows and their bytes
abbrev pub told : List Description → Columned
told ds = record { runs = length ds; rows = record { rows = total_rows ds }; bytes = record { bytes = length (joined ds) } }

-- of the check: no byte is lent to it
unfoldable pub checked_as : Bool → List ℤ → Columns → ℕ → Option Columned
checked_as signed rows c room = pick (accepted signed rows c room) (Some (told (runs signed rows (segments c)))) None

-- of the writer: the answer, and every lent byte
abbrev pub told_as : Column → Result ColumnRuns Refusal
told_as (planned ds) = Ok (answer.Planned (told ds))
told_as (direct ds) = Ok (answer.Direct (told ds))
told_as eight = Err (refusing 8 0)

pub record Wrote (signed : Bool) (rows : List ℤ) (c : Columns) (out out' : List ℕ) (r : Result ColumnRuns Refusal) : Type 0 where
  pub answer : r ≡ told_as (column signed rows c (length out))
  pub places : out' ≡ column_bytes out (column signed rows c (length out))
