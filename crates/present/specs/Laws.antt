-- What is proved of a column with missing rows: statements over every column of flags, every column of rows, every fill and all places.
-- Assumes nothing.
use Rattle.std.specs.Prelude.{◌≡◌, ◌↔◌, ℕ, ◌+◌, ◌<◌, ◌≤◌, List, [], ◌∷◌, ◌++◌, length, take, drop, get_or, T, ℤ}
use Rattle.format.specs.Fields.{pick}
use Rattle.present.specs.Present.{is_there, present, spread, spread_over, not_spread, SpreadOut, Spread}

-- flags and rows are lined up
abbrev pub LinedUp : List ℕ → List ℤ → Type 0
LinedUp flags rows = present flags ≡ length rows

-- what stands in the places of the rows that are there
unfoldable pub picked : List ℕ → List ℤ → List ℤ
picked [] column = []
picked (f ∷ fs) [] = []
picked (f ∷ fs) (z ∷ column) = pick (is_there f) (z ∷ picked fs column) (picked fs column)

-- ---- EACH ROW

-- which of the rows is row i's, if it is there: the one with as many before it as flags before i are not 0
abbrev pub rank : List ℕ → ℕ → ℕ
rank flags i = present (take i flags)

module _ (flags : List ℕ) (rows : List ℤ) (fill : ℤ) where
  pub record RowIs (i : ℕ) (row : ℤ) : Type 0 where
    pub there : T (is_there (get_or flags i 0)) → (rank flags i < length rows) × (row ≡ get_or rows (rank flags i) fill)
    pub missing : (T (is_there (get_or flags i 0)) → ⊥) → row ≡ fill

  pub record ColumnIs (column : List ℤ) : Type 0 where
    pub long : length column ≡ length flags
    pub each : (i : ℕ) (d : ℤ) → i < length flags → RowIs i (get_or column i d)
    -- the places of the rows that are there give the rows again
    pub back : picked flags column ≡ rows

abbrev pub ColumnsHold : Type 0
ColumnsHold = (flags : List ℕ) (rows : List ℤ) (fill : ℤ) → LinedUp flags rows → ColumnIs flags rows fill (spread fill flags rows)

-- there is no other column of which this holds
abbrev pub OneColumn : Type 0
OneColumn =
    (flags : List ℕ) (rows : List ℤ) (fill : ℤ) (column : List ℤ)
    → LinedUp flags rows → ColumnIs flags rows fill column → column ≡ spread fill flags rows

-- ---- BATCHES AND THE WHOLE

module _ (fill : ℤ) where
  pub record BatchesHold : Type 0 where
    -- two columns one after the other are lined up, and spread to the joined column
    pub lined : (f g : List ℕ) (r s : List ℤ) → LinedUp f r → LinedUp g s → LinedUp (f ++ g) (r ++ s)
    pub joined : (f g : List ℕ) (r s : List ℤ) → LinedUp f r → spread fill (f ++ g) (r ++ s) ≡ spread fill f r ++ spread fill g s
    -- a column may be cut before any flag, and its rows before that flag's: both parts are lined up ..
    pub cut-first : (n : ℕ) (flags : List ℕ) (rows : List ℤ) → LinedUp flags rows → LinedUp (take n flags) (take (rank flags n) rows)
    pub cut-rest : (n : ℕ) (flags : List ℕ) (rows : List ℤ) → LinedUp flags rows → LinedUp (drop n flags) (drop (rank flags n) rows)
    -- .. and spread to the whole
    pub cut : (n : ℕ) (flags : List ℕ) (rows : List ℤ) → LinedUp flags rows
        → spread fill flags rows
        ≡ spread fill (take n flags) (take (rank flags n) rows) ++ spread fill (drop n flags) (drop (rank flags n) rows)
    -- two calls, the second with the places after the first column, leave in the places what one call leaves
    pub calls : (f g : List ℕ) (r s out one two whole : List ℤ) (a b c : Spread) → LinedUp f r → LinedUp g s
        → length f + length g ≤ length out
        → SpreadOut f r fill out one a → SpreadOut g s fill (drop (length f) one) two b → SpreadOut (f ++ g) (r ++ s) fill out whole c
        → whole ≡ take (length f) one ++ two

abbrev pub AllBatches : Type 0
AllBatches = (fill : ℤ) → BatchesHold fill

-- ---- EACH ANSWER, EXACTLY WHEN: in the order 21, 8

module _ (flags : List ℕ) (rows : List ℤ) (places : ℕ) where
  pub data SpreadSaid : Spread → Type 0 where
    twenty-one : (LinedUp flags rows → ⊥) → SpreadSaid (not_spread 21)
    eight : LinedUp flags rows → places < length flags → SpreadSaid (not_spread 8)
    all-rows : LinedUp flags rows → length flags ≤ places → SpreadSaid (spread_over (length flags))

module _ (flags : List ℕ) (rows : List ℤ) (fill : ℤ) (out out' : List ℤ) (r : Spread) where
  pub record CallIs : Type 0 where
    pub exactly : (a : Spread) → (r ≡ a) ↔ SpreadSaid flags rows (length out) a
    -- a column that is lined up stands in the first places, and the others keep their content ..
    pub column : LinedUp flags rows → length flags ≤ length out → out' ≡ spread fill flags rows ++ drop (length flags) out
    pub back : LinedUp flags rows → length flags ≤ length out → picked flags out' ≡ rows
    -- .. and a refused call changes no place
    pub untouched : (n : ℕ) → r ≡ not_spread n → out' ≡ out
    pub long : length out' ≡ length out

abbrev pub SpreadsHold : Type 0
SpreadsHold =
    (flags : List ℕ) (rows : List ℤ) (fill : ℤ) (out out' : List ℤ) (r : Spread)
    → SpreadOut flags rows fill out out' r → CallIs flags rows fill out out' r

-- any two outcomes that the promise allows are equal
abbrev pub SpreadsDetermined : Type 0
SpreadsDetermined =
    (flags : List ℕ) (rows : List ℤ) (fill : ℤ) (out one two : List ℤ) (r r' : Spread)
    → SpreadOut flags rows fill out one r → SpreadOut flags rows fill out two r' → (r ≡ r') × (one ≡ two)
