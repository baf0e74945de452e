-- The row index of an integer stream as a table of entries (FORMAT.md, "Index").
-- Assumes nothing.
use Rattle.std.specs.Prelude.{ℕ, ◌+◌, ◌-◌, Bool, true, false, not, ◌&&◌, ◌||◌, List, [], ◌∷◌, ◌++◌, length, drop, leb, ltb, eqb, ℤ}
use Rattle.format.specs.Fields.{pick, two64}
use Rattle.format.specs.Runs.{Description, row_count, layout, joined}
use Rattle.format.specs.Parse.{Reason, plain, cut}
use Rattle.format.specs.Streams.{Reading, whole, broken, stream, total_rows, joined_rows}

-- what a call comes to: a thing, or a refusal with its reason and its place, which is 0 unless the refusal is the stream's own
pub data Result (A : Type 0) : Type 0 where
  gives : A → Result A
  refuses : Reason → ℕ → Result A

-- the refusal's number: none is 0
abbrev pub number_of : {A : Type 0} → Result A → ℕ
number_of (gives a) = 0
number_of (refuses (plain n) at) = n
number_of (refuses (cut n left) at) = n

-- refuse with a number if the test passes, and else go on
abbrev pub unless : {A : Type 0} → Bool → ℕ → Result A → Result A
unless true n m = refuses (plain n) 0
unless false n m = m

-- go on with what was given
abbrev pub then : {A B : Type 0} → Result A → (A → Result B) → Result B
then (gives a) f = f a
then (refuses r at) f = refuses r at

-- ---- ENTRIES: one a run, each with first row, byte offset and row count

pub record Entry : Type 0 where
  pub first : ℕ
  pub at : ℕ
  pub rows : ℕ

-- the entries of runs before which there are so many rows and bytes
unfoldable pub entries_from : ℕ → ℕ → List Description → List Entry
entries_from first at [] = []
entries_from first at (d ∷ ds) =
    record { first = first; at = at; rows = row_count d } ∷ entries_from (first + row_count d) (at + length (layout d)) ds

abbrev pub entries : List Description → List Entry
entries ds = entries_from 0 0 ds

-- ---- BUILDING: the stream's own refusal, then 8 if an entry lacks a place
-- or the rows pass 2^64 - 1. What is built is given by the stream's runs.

abbrev pub building_of : ℕ → Reading → Result (List Description)
building_of places (broken ds r rest) = refuses r (length (joined ds))
building_of places (whole ds) = unless (ltb places (length ds) || leb two64 (total_rows ds)) 8 (gives ds)

unfoldable pub building : ℕ → List ℕ → Result (List Description)
building places bs = building_of places (stream bs)

-- the table at exit: the entries in the first places, and what stood in the others; a refused call leaves the table as it was
abbrev pub table_of : List Entry → Result (List Description) → List Entry
table_of table (gives ds) = entries ds ++ drop (length ds) table
table_of table (refuses r at) = table

-- ---- LOOKING UP a row in an index that is not trusted

-- two lists have the same elements, by a test of two elements
unfoldable pub same : {A : Type 0} → (A → A → Bool) → List A → List A → Bool
same eq [] [] = true
same eq [] (y ∷ ys) = false
same eq (x ∷ xs) [] = false
same eq (x ∷ xs) (y ∷ ys) = eq x y && same eq xs ys

abbrev pub same_entry : Entry → Entry → Bool
same_entry e f = eqb e.first f.first && (eqb e.at f.at && eqb e.rows f.rows)

-- the runs of the stream: 15 if these aren't exactly its entries (a refused stream has no right index)
abbrev pub checked_of : List Entry → Reading → Result (List Description)
checked_of es (broken ds r rest) = refuses (plain 15) 0
checked_of es (whole ds) = unless (not (same same_entry es (entries ds))) 15 (gives ds)

unfoldable pub checked : List Entry → List ℕ → Result (List Description)
checked es bs = checked_of es (stream bs)

-- the entry that holds the row: 16 if there is none
abbrev pub holds_row : Entry → ℕ → Bool
holds_row e r = leb e.first r && ltb r (e.first + e.rows)

unfoldable pub holder : ℕ → List Entry → Result Entry
holder r [] = refuses (plain 16) 0
holder r (e ∷ es) = pick (holds_row e r) (gives e) (holder r es)

unfoldable pub lookup : List Entry → List ℕ → ℕ → Result Entry
lookup es bs r = then (checked es bs) λ ds. holder r es

-- ---- READING FROM A ROW: the whole stream's rows without the first r; 15, then 16, then 8

-- row r of these runs and all after it
abbrev pub rows_from : Bool → ℕ → ℕ → List Description → Result (List ℤ)
rows_from signed places r ds =
    unless (leb (total_rows ds) r) 16 (unless (ltb places (total_rows ds - r)) 8 (gives (drop r (joined_rows signed ds))))

unfoldable pub reading : Bool → ℕ → List Entry → List ℕ → ℕ → Result (List ℤ)
reading signed places es bs r = then (checked es bs) (rows_from signed places r)

-- the places at exit: the rows in the first of them, and what stood in the others; a refused call leaves every place unchanged
abbrev pub preview_places : List ℤ → Result (List ℤ) → List ℤ
preview_places out (gives rows) = rows ++ drop (length rows) out
preview_places out (refuses r at) = out
