-- The row index as three columns: first row, byte offset, rows (FORMAT.md, "Index").
-- Assumes nothing.
use Rattle.std.specs.Prelude.{ℕ, ◌+◌, Bool, not, ◌&&◌, List, [], ◌∷◌, ◌++◌, map, length, drop, eqb, ℤ}
use Rattle.format.specs.Fields.{pick}
use Rattle.format.specs.Runs.{Description, row_count, layout}
use Rattle.format.specs.Parse.{plain}
use Rattle.format.specs.Streams.{Reading, whole, broken, stream}
use Rattle.index.specs.Entries.{Result, refuses, gives, unless, then, same, Entry, holds_row, building, rows_from}

pub record Columns : Type 0 where
  pub firsts : List ℕ
  pub offsets : List ℕ
  pub counts : List ℕ

-- the sums before each of some numbers, and what stands before them all
unfoldable pub sums_before : ℕ → List ℕ → List ℕ
sums_before s [] = []
sums_before s (n ∷ ns) = s ∷ sums_before (s + n) ns

abbrev pub byte_count : Description → ℕ
byte_count d = length (layout d)

-- the columns of a stream's runs
abbrev pub columns : List Description → Columns
columns ds = record { firsts = sums_before 0 (map row_count ds); offsets = sums_before 0 (map byte_count ds); counts = map row_count ds }

abbrev pub same_columns : Columns → Columns → Bool
same_columns c k = same eqb c.firsts k.firsts && (same eqb c.offsets k.offsets && same eqb c.counts k.counts)

-- three lengths are one
abbrev pub alike : ℕ → ℕ → ℕ → Bool
alike f o n = eqb f o && eqb f n

-- BUILDING: columns of unequal length are 15, before all else; and else as with as many entries
unfoldable pub building_in : ℕ → ℕ → ℕ → List ℕ → Result (List Description)
building_in f o n bs = unless (not (alike f o n)) 15 (building f bs)

-- the columns at exit: the runs' columns in the first places, and what stood in the others; a refused call leaves them as they were
abbrev pub columns_at : Columns → Result (List Description) → Columns
columns_at c (gives ds) = record {
  firsts = (columns ds).firsts ++ drop (length ds) c.firsts;
  offsets = (columns ds).offsets ++ drop (length ds) c.offsets;
  counts = (columns ds).counts ++ drop (length ds) c.counts;
}
columns_at c (refuses r at) = c

-- the runs of the stream: 15 if the columns are of unequal length, or aren't exactly its columns (a refused stream has no right ones)
abbrev pub checked_columns : Columns → Reading → Result (List Description)
checked_columns c (broken ds r rest) = refuses (plain 15) 0
checked_columns c (whole ds) = unless (not (same_columns c (columns ds))) 15 (gives ds)

unfoldable pub checked_in : Columns → List ℕ → Result (List Description)
checked_in c bs = unless (not (alike (length c.firsts) (length c.offsets) (length c.counts))) 15 (checked_columns c (stream bs))

-- the place in all three that holds the row, as an entry: 16 if there is none
unfoldable pub holder_in : ℕ → List ℕ → List ℕ → List ℕ → Result Entry
holder_in r (f ∷ fs) (o ∷ os) (n ∷ ns) =
    let e : Entry = record { first = f; at = o; rows = n } in
    pick (holds_row e r) (gives e) (holder_in r fs os ns)
holder_in r [] os ns = refuses (plain 16) 0
holder_in r (f ∷ fs) [] ns = refuses (plain 16) 0
holder_in r (f ∷ fs) (o ∷ os) [] = refuses (plain 16) 0

unfoldable pub lookup_in : Columns → List ℕ → ℕ → Result Entry
lookup_in c bs r = then (checked_in c bs) λ ds. holder_in r c.firsts c.offsets c.counts

unfoldable pub reading_in : Bool → ℕ → Columns → List ℕ → ℕ → Result (List ℤ)
reading_in signed places c bs r = then (checked_in c bs) (rows_from signed places r)
