-- For the functions of the code: what a walk over a stream finds, and the rows counted in 64 bits. Assumes nothing.
use Rattle.std.specs.Prelude.{◌≡◌, ℕ, ◌+◌, ◌-◌, ◌<◌, ◌≤◌, Bool, false, ◌&&◌, List, ◌∷◌, ◌++◌, map, length, drop, leb, ltb, eqb, ℤ, Option, Some, None, Result, Ok, Err}
use Rattle.format.specs.Fields.{pick, two64}
use Rattle.format.specs.Runs.{Description, row_count, AllValid, joined}
use Rattle.format.specs.Streams.{Reading, whole, broken, stream, total_rows, joined_rows}
use Rattle.format.specs.Answers.{refusal}
use Rattle.index.specs.Entries.{gives, same}
use Rattle.index.specs.Columns.{sums_before, byte_count, columns_at}
use Rattle.format.specs.declared.Refusal.{Refusal}
use Rattle.format.specs.declared.RowNumber.{RowNumber}
use Rattle.index.specs.declared.walk.Whole.{Whole}

-- a count of rows, while it is at most 2^64 - 1
unfoldable pub total_of : ℕ → Option RowNumber
total_of n = pick (leb two64 n) None (Some (record { rows = n }))

-- what a walk finds that has passed k runs, so many rows and p bytes, by the reading of what is left
abbrev pub survey_from : ℕ → ℕ → ℕ → Reading → Result Whole Refusal
survey_from k rows p (whole ds) = Ok (record { runs = k + length ds; rows = total_of (rows + total_rows ds) })
survey_from k rows p (broken ds r rest) = Err (refusal (p + length (joined ds)) (length rest) r)

-- what is left of the three columns is what is left of the stream, before which there are so many rows and bytes
abbrev pub right_from : ℕ → ℕ → List ℕ → List ℕ → List ℕ → Reading → Bool
right_from first at fs os ns (whole ds) =
    same eqb fs (sums_before first (map row_count ds)) && (same eqb os (sums_before at (map byte_count ds)) && same eqb ns (map row_count ds))
right_from first at fs os ns (broken ds r rest) = false

-- one place of the columns
abbrev pub same_three : ℕ → ℕ → ℕ → ℕ → ℕ → ℕ → Bool
same_three f o n first at rows = eqb f first && (eqb o at && eqb n rows)

-- columns that have room for a whole stream's ..
pub record Roomy (input : List ℕ) (places offsets counts : ℕ) : Type 0 where
  pub runs : List Description
  pub whole_is : stream input ≡ whole runs
  pub room : length runs ≤ places
  pub small : total_rows runs < two64
  pub same-offsets : offsets ≡ places
  pub same-counts : counts ≡ places

-- .. and are filled with them
pub record Filled (input first at counts first' at' counts' : List ℕ) : Type 0 where
  pub filled : (ds : List Description) → stream input ≡ whole ds
      → record { firsts = first'; offsets = at'; counts = counts' }
      ≡ columns_at (record { firsts = first; offsets = at; counts = counts }) (gives ds)

-- how many rows there are from r on, where the last entry is known: none if they are more than the places
abbrev pub left_of : ℕ → ℕ → ℕ → ℕ → Option RowNumber
left_of first rows r places = pick (ltb places (first + rows - r)) None (Some (record { rows = first + rows - r }))

-- a run at a place and the runs behind it, to the end; it has more rows than are left out, and there is room for the others ..
pub record Ready (input : List ℕ) (at skip places : ℕ) : Type 0 where
  pub run : Description
  pub behind : List Description
  pub valid : AllValid (run ∷ behind)
  pub bytes : drop at input ≡ joined (run ∷ behind)
  pub within : at ≤ length input
  pub skips : skip < row_count run
  pub room : total_rows (run ∷ behind) - skip ≤ places

-- .. and their rows are laid
pub record RowsLaid (input : List ℕ) (at skip : ℕ) (signed : Bool) (out out' : List ℤ) : Type 0 where
  pub laid : (ds : List Description) → AllValid ds → drop at input ≡ joined ds
      → out' ≡ drop skip (joined_rows signed ds) ++ drop (total_rows ds - skip) out
