-- What the index's calls promise: each an equation, for every input, all columns and every row. Assumes nothing.
use Rattle.std.specs.Prelude.{◌≡◌, ℕ, ◌-◌, Bool, List, length, ℤ}
use Rattle.format.specs.Runs.{Description, joined}
use Rattle.format.specs.Streams.{total_rows}
use Rattle.format.specs.Answers.{refusing, refusal}
use Rattle.index.specs.Entries as entries
use Rattle.index.specs.Entries.{Result, gives, refuses, preview_places}
use Rattle.index.specs.Columns.{Columns, columns_at, building_in, lookup_in, reading_in}
use Rattle.index.specs.declared.Sizes.{Sizes}
use Rattle.index.specs.declared.Entry as row
use Rattle.format.specs.declared.Refusal.{Refusal}
use Rattle.format.specs.declared.RowNumber.{RowNumber}
use Rattle.std.specs.Prelude as std
use Rattle.std.specs.Prelude.{Ok, Err}

-- ---- the three answers

abbrev pub Built : Type 0
Built = std.Result Sizes Refusal

abbrev pub Found : Type 0
Found = std.Result row.Entry Refusal

abbrev pub Preview : Type 0
Preview = std.Result RowNumber Refusal

-- ---- their cases, by their numbers; a refusal that is not the stream's own has place 0

abbrev pub sizes_of : ℕ → ℕ → ℕ → Sizes
sizes_of count rows bytes = record { entries = count; rows = record { rows = rows }; consumed = record { bytes = bytes } }

abbrev pub built_with : ℕ → ℕ → ℕ → Built
built_with count rows bytes = Ok (sizes_of count rows bytes)

abbrev pub not_built : ℕ → Built
not_built number = Err (refusing number 0)

abbrev pub found_at : ℕ → ℕ → ℕ → Found
found_at first at rows = Ok (record { first = record { rows = first }; at = record { bytes = at }; rows = record { rows = rows } })

abbrev pub not_found : ℕ → Found
not_found number = Err (refusing number 0)

abbrev pub read_rows : ℕ → Preview
read_rows rows = Ok (record { rows = rows })

abbrev pub not_read : ℕ → Preview
not_read number = Err (refusing number 0)

-- ---- BUILDING answers the entries, the rows and the bytes; or why not, of `total` bytes

abbrev pub built_of : ℕ → Result (List Description) → Built
built_of total (gives ds) = built_with (length ds) (total_rows ds) (length (joined ds))
built_of total (refuses r at) = Err (refusal at (total - at) r)

pub record BuiltIn (input first at counts first' at' counts' : List ℕ) (r : Built) : Type 0 where
  pub answer : r ≡ built_of (length input) (building_in (length first) (length at) (length counts) input)
  pub columns : record { firsts = first'; offsets = at'; counts = counts' }
      ≡ columns_at (record { firsts = first; offsets = at; counts = counts }) (building_in (length first) (length at) (length counts) input)

-- ---- LOOKING UP a row answers the entry that holds it

abbrev pub found_of : Result entries.Entry → Found
found_of (gives e) = found_at e.first e.at e.rows
found_of (refuses r at) = Err (refusal at 0 r)

abbrev pub LookedUp : List ℕ → Columns → ℕ → Found → Type 0
LookedUp input c row r = r ≡ found_of (lookup_in c input row)

-- ---- READING FROM A ROW answers how many rows there are, and leaves them in the first places

abbrev pub preview_of : Result (List ℤ) → Preview
preview_of (gives rows) = read_rows (length rows)
preview_of (refuses r at) = Err (refusal at 0 r)

pub record ReadFrom (input : List ℕ) (c : Columns) (row : ℕ) (signed : Bool) (out out' : List ℤ) (r : Preview) : Type 0 where
  pub answer : r ≡ preview_of (reading_in signed (length out) c input row)
  pub places : out' ≡ preview_places out (reading_in signed (length out) c input row)
