-- What is proved of the index: statements over every input of bytes, every index, right or wrong, and every row.
-- Assumes nothing.
use Rattle.std.specs.Prelude.{◌≡◌, ◌≢◌, ◌↔◌, ◌⊎◌, ℕ, ◌+◌, ◌-◌, ◌*◌, ◌<◌, ◌≤◌, Bool, length, take, drop, ℤ}
use mathlib.Core.List.{List, [], ◌∷◌, ◌++◌, map, Memᴰ}
use Rattle.format.specs.Digits.{AllBelow}
use Rattle.format.specs.Fields.{two64}
use Rattle.format.specs.Runs.{Description, row_count, AllValid, joined}
use Rattle.format.specs.Parse.{Reason, plain}
use Rattle.format.specs.Streams.{whole, broken, read_all, stream, total_rows, joined_rows}
use Rattle.index.specs.Entries.{Result, gives, refuses, number_of, Entry, entries_from, entries, building, table_of, lookup, reading}
use Rattle.index.specs.Columns.{Columns, columns_at, building_in, lookup_in, reading_in}
use Rattle.std.specs.Prelude.{Ok}
use Rattle.index.specs.Promises.{Built, Found, Preview, BuiltIn, LookedUp, ReadFrom, not_found}
use Rattle.index.specs.declared.Sizes.{Sizes}

-- a right index: the bytes are the layouts of valid runs, joined, and the entries are those of these runs
pub record IsIndex (bs : List ℕ) (es : List Entry) : Type 0 where
  pub runs : List Description
  pub valid : AllValid runs
  pub bytes : bs ≡ joined runs
  pub are : es ≡ entries runs

-- an entry holds a row
pub record Holds (e : Entry) (r : ℕ) : Type 0 where
  pub from : e.first ≤ r
  pub below : r < e.first + e.rows

-- ---- THE ENTRIES: one a run, its first row and its byte offset being the sums of rows and bytes before it
pub record EntriesHold : Type 0 where
  pub one-a-run : (ds : List Description) → length (entries ds) ≡ length ds
  pub sums : (before behind : List Description) (d : Description)
      → entries (before ++ (d ∷ behind))
      ≡ entries before
      ++ (record { first = total_rows before; at = length (joined before); rows = row_count d }
      ∷ entries_from (total_rows (before ++ (d ∷ []))) (length (joined (before ++ (d ∷ [])))) behind)

module _ (bs : List ℕ) where
  -- ---- THE STREAM with room enough: more room changes nothing, and "whole" needs no condition on it
  pub record StreamHolds : Type 0 where
    pub room-enough : (n : ℕ) → 512 * length bs ≤ n → read_all n bs ≡ stream bs
    pub exactly : (ds : List Description) → (stream bs ≡ whole ds) ↔ (AllValid ds × (bs ≡ joined ds))

  -- ---- BUILDING is accepted exactly where the stream is whole, there are places enough and the rows are at most 2^64 - 1
  pub record BuildingHolds : Type 0 where
    pub exactly : (places : ℕ) (ds : List Description)
        → (building places bs ≡ gives ds) ↔ (AllValid ds × (bs ≡ joined ds) × (length ds ≤ places) × (total_rows ds < two64))
    -- the stream's own refusal, at the byte where the refused run begins; then 8; either with the table as it was
    pub own : (places : ℕ) (ds : List Description) (r : Reason) (rest : List ℕ) → stream bs ≡ broken ds r rest
        → building places bs ≡ refuses r (length (joined ds))
    pub is-8 : (places : ℕ) (ds : List Description) → AllValid ds → bs ≡ joined ds → (places < length ds) ⊎ (two64 ≤ total_rows ds)
        → building places bs ≡ refuses (plain 8) 0
    -- 8 exactly there: the stream's own refusal is never 8
    pub exactly-8 : (places : ℕ) → (number_of (building places bs) ≡ 8)
        ↔ ((ds : List Description) × AllValid ds × (bs ≡ joined ds) × ((places < length ds) ⊎ (two64 ≤ total_rows ds)))
    pub untouched : (table : List Entry) (r : Reason) (at : ℕ) → building (length table) bs ≡ refuses r at
        → table_of table (building (length table) bs) ≡ table
    -- what is built is right, so that no lookup in it gives 15, and there is no other
    pub right : (table : List Entry) (ds : List Description) → building (length table) bs ≡ gives ds
        → IsIndex bs (take (length ds) (table_of table (building (length table) bs)))
    pub never-15 : (table : List Entry) (ds : List Description) (r : ℕ) → building (length table) bs ≡ gives ds
        → number_of (lookup (take (length ds) (table_of table (building (length table) bs))) bs r) ≢ 15
    pub only : (es es' : List Entry) → IsIndex bs es → IsIndex bs es' → es ≡ es'

  -- ---- LOOKUP gives an entry exactly if the index is right and the entry is one of it that holds the row; it is the only one that does
  pub record LookupHolds (es : List Entry) (r : ℕ) : Type 0 where
    pub exactly : (e : Entry) → (lookup es bs r ≡ gives e) ↔ (IsIndex bs es × Memᴰ e es × Holds e r)
    pub only : (e e' : Entry) → IsIndex bs es → Memᴰ e es → Holds e r → Memᴰ e' es → Holds e' r → e ≡ e'
    pub found : (i : IsIndex bs es) → r < total_rows i.runs → (e : Entry) × (lookup es bs r ≡ gives e)
    pub is-15 : (number_of (lookup es bs r) ≡ 15) ↔ (IsIndex bs es → ⊥)
    pub is-16 : (number_of (lookup es bs r) ≡ 16) ↔ ((i : IsIndex bs es) × (total_rows i.runs ≤ r))

  -- ---- READING FROM A ROW gives the whole stream's rows without the first r; and what lookup's entry is for: the bytes from its offset on
  -- are a whole stream, whose rows without the first r - first are the same
  pub record ReadingHolds (signed : Bool) (places : ℕ) (es : List Entry) (r : ℕ) : Type 0 where
    pub rows : (i : IsIndex bs es) → r < total_rows i.runs → total_rows i.runs - r ≤ places
        → reading signed places es bs r ≡ gives (drop r (joined_rows signed i.runs))
    pub is-15 : (number_of (reading signed places es bs r) ≡ 15) ↔ (IsIndex bs es → ⊥)
    pub is-16 : (number_of (reading signed places es bs r) ≡ 16) ↔ ((i : IsIndex bs es) × (total_rows i.runs ≤ r))
    pub is-8 : (number_of (reading signed places es bs r) ≡ 8)
        ↔ ((i : IsIndex bs es) × (r < total_rows i.runs) × (places < total_rows i.runs - r))
    pub through : (i : IsIndex bs es) (e : Entry) → lookup es bs r ≡ gives e
        → (ds : List Description) × (stream (drop e.at bs) ≡ whole ds)
        × (drop r (joined_rows signed i.runs) ≡ drop (r - e.first) (joined_rows signed ds))

  pub record IndexHolds : Type 0 where
    pub the-stream : StreamHolds
    pub the-building : BuildingHolds
    pub the-lookup : (es : List Entry) (r : ℕ) → LookupHolds es r
    pub the-reading : (signed : Bool) (places : ℕ) (es : List Entry) (r : ℕ) → ReadingHolds signed places es r

-- ALL OF IT, for every input of bytes
abbrev pub IndexProved : Type 0
IndexProved = (bs : List ℕ) → AllBelow 256 bs → IndexHolds bs

-- ---- THE COLUMNS say what the table says

-- a table as columns
abbrev pub as_columns : List Entry → Columns
as_columns es = record { firsts = map (λ e. e.first) es; offsets = map (λ e. e.at) es; counts = map (λ e. e.rows) es }

-- columns of one length
pub record Alike (c : Columns) : Type 0 where
  pub offsets : length c.firsts ≡ length c.offsets
  pub counts : length c.firsts ≡ length c.counts

pub record ColumnsHold : Type 0 where
  -- columns of one length are a table's, and a table's are of one length
  pub a-table : (c : Columns) → Alike c → (es : List Entry) × (c ≡ as_columns es)
  pub table-alike : (es : List Entry) → Alike (as_columns es)
  -- and every lookup and reading in them is that of the table
  pub same-lookup : (es : List Entry) (bs : List ℕ) (r : ℕ) → lookup_in (as_columns es) bs r ≡ lookup es bs r
  pub same-reading : (signed : Bool) (places : ℕ) (es : List Entry) (bs : List ℕ) (r : ℕ)
      → reading_in signed places (as_columns es) bs r ≡ reading signed places es bs r
  pub same-building : (n : ℕ) (bs : List ℕ) → building_in n n n bs ≡ building n bs
  pub same-table : (table : List Entry) (m : Result (List Description)) → columns_at (as_columns table) m ≡ as_columns (table_of table m)
  -- unequal lengths are 15, whatever else there is
  pub unequal-lookup : (c : Columns) (bs : List ℕ) (r : ℕ) → (Alike c → ⊥) → lookup_in c bs r ≡ refuses (plain 15) 0
  pub unequal-reading : (signed : Bool) (places : ℕ) (c : Columns) (bs : List ℕ) (r : ℕ) → (Alike c → ⊥)
      → reading_in signed places c bs r ≡ refuses (plain 15) 0
  pub unequal-building : (f o n : ℕ) (bs : List ℕ) → ((f ≡ o) × (f ≡ n) → ⊥) → building_in f o n bs ≡ refuses (plain 15) 0

-- ---- THE PROMISES of the calls: any two outcomes are equal, and what was built is a right index, so that looking up in it never gives 15
pub record PromisesHold : Type 0 where
  pub build-same : (input first at counts f o n f' o' n' : List ℕ) (r r' : Built)
      → BuiltIn input first at counts f o n r → BuiltIn input first at counts f' o' n' r' → (r ≡ r') × (f ≡ f') × (o ≡ o') × (n ≡ n')
  pub lookup-same : (input : List ℕ) (c : Columns) (row : ℕ) (r r' : Found) → LookedUp input c row r → LookedUp input c row r' → r ≡ r'
  pub reading-same : (input : List ℕ) (c : Columns) (row : ℕ) (signed : Bool) (out out' out'' : List ℤ) (r r' : Preview)
      → ReadFrom input c row signed out out' r → ReadFrom input c row signed out out'' r' → (r ≡ r') × (out' ≡ out'')
  pub never-15 : (input first at counts f o n : List ℕ) (s : Sizes) (row : ℕ) (r : Found) → AllBelow 256 input
      → BuiltIn input first at counts f o n (Ok s)
      → LookedUp input (record { firsts = take s.entries f; offsets = take s.entries o; counts = take s.entries n }) row r
      → r ≢ not_found 15
