-- What is proved of batches: statements over every input of bytes, every position and every number of places. Assumes nothing.
use Rattle.std.specs.Prelude.{◌≡◌, ◌↔◌, ℕ, ◌+◌, ◌-◌, ◌<◌, ◌≤◌, min, Bool, length, take, drop, ℤ}
use mathlib.Core.List.{List, [], ◌∷◌, ◌++◌, Memᴰ}
use Rattle.format.specs.declared.Refusal.{Refusal}
use Rattle.format.specs.Answers.{LastRun, refusing, broke_at}
use Rattle.format.specs.Digits.{AllBelow, sum}
use Rattle.format.specs.Promises.{stream_answer}
use Rattle.format.specs.Runs.{Description, row_count}
use Rattle.format.specs.Streams.{whole, runs_of, total_rows, joined_rows}
use Rattle.index.specs.Entries.{Entry}
use Rattle.index.specs.Theorems.{IsIndex, Holds}
use Rattle.batches.specs.Batches.{Position, RowBatch, BatchOutcome, gives, ended, refuses, rows_left, count_left, empty_of}
use Rattle.batches.specs.Batches.{reading_at, batch}
use Rattle.batches.specs.BatchPromise.{Batch, RowsRead}
use Rattle.batches.specs.declared.RowPosition.{RowPosition}

-- the rows from a position of the input on
abbrev pub rows_at : Bool → List ℕ → Position → List ℤ
rows_at signed bs p = rows_left signed p (reading_at bs p)

-- ---- A BATCH has the first n rows from its position on, or all if there are fewer. Its next position is that of the row after them: what
-- is read from there is what is left, and fewer rows are to be skipped than its run has.
abbrev pub Plain : ℕ → List Description → Type 0
Plain skip [] = skip ≡ 0
Plain skip (d ∷ ds) = skip < row_count d

pub record BatchHolds (signed : Bool) (n : ℕ) (bs : List ℕ) (p : Position) (g : RowBatch) : Type 0 where
  pub rows : g.rows ≡ take n (rows_at signed bs p)
  pub many : length g.rows ≡ min n (count_left p (reading_at bs p))
  pub left : rows_at signed bs g.next ≡ drop n (rows_at signed bs p)
  pub plain : Plain g.next.skip (runs_of (reading_at bs g.next))

abbrev pub EveryBatch : Type 0
EveryBatch = (signed : Bool) (n : ℕ) (bs : List ℕ) (p : Position) (g : RowBatch) → AllBelow 256 bs → batch signed n bs p ≡ gives g
    → BatchHolds signed n bs p g

-- ---- TWO CALLS

-- two batches, one after the other: if the second call gives none, the first is all
abbrev pub joined_to : RowBatch → BatchOutcome → BatchOutcome
joined_to g (gives h) = gives (record { rows = g.rows ++ h.rows; next = h.next })
joined_to g ended = gives g
joined_to g (refuses f) = gives g

-- a second call, at the next position; without a batch there is none
abbrev pub and_then : BatchOutcome → (Position → BatchOutcome) → BatchOutcome
and_then (gives g) f = joined_to g (f g.next)
and_then ended f = ended
and_then (refuses r) f = refuses r

-- with n places and then m they give together what one call with n + m places gives
abbrev pub TwoCalls : Type 0
TwoCalls = (signed : Bool) (n m : ℕ) (bs : List ℕ) (p : Position) → AllBelow 256 bs
    → batch signed (n + m) bs p ≡ and_then (batch signed n bs p) (batch signed m bs)

-- ---- ANY BATCH SIZES

-- the rows of several calls, joined, and the answer of the last: a call follows a call that gave a batch
pub record Series : Type 0 where
  pub rows : List ℤ
  pub last : BatchOutcome

abbrev pub following : BatchOutcome → (Position → Series) → Series
following (gives g) f = record { rows = g.rows ++ (f g.next).rows; last = (f g.next).last }
following ended f = record { rows = []; last = ended }
following (refuses r) f = record { rows = []; last = refuses r }

-- before any call there are no rows
unfoldable pub series : Bool → List ℕ → Position → List ℕ → Series
series signed bs p [] = record { rows = []; last = gives (record { rows = []; next = p }) }
series signed bs p (n ∷ ns) = following (batch signed n bs p) λ q. series signed bs q ns

abbrev pub AllSome : List ℕ → Type 0
AllSome [] = Unit {0}
AllSome (n ∷ ns) = (1 ≤ n) × AllSome ns

-- rows no longer come
abbrev pub Stopped : BatchOutcome → Type 0
Stopped (gives g) = ⊥
Stopped ended = Unit {0}
Stopped (refuses f) = Unit {0}

module _ (signed : Bool) (bs : List ℕ) (p : Position) where
  -- of calls with the places ns
  pub record SeriesHolds (ns : List ℕ) (s : Series) : Type 0 where
    -- the rows joined are the first from the position on, as many as there were places
    pub rows : s.rows ≡ take (sum ns) (rows_at signed bs p)
    -- once rows no longer come, they were all, and the answer is that of a position without rows
    pub all-rows : Stopped s.last → s.rows ≡ rows_at signed bs p
    pub answer : Stopped s.last → s.last ≡ empty_of p (reading_at bs p)
    -- with places in every call, one call more than there are rows is enough
    pub stops : AllSome ns → length (rows_at signed bs p) < length ns → Stopped s.last

  -- the answer of a position without rows
  pub record EmptyHolds : Type 0 where
    pub exactly : (n : ℕ) → (batch signed n bs p ≡ empty_of p (reading_at bs p)) ↔ (rows_at signed bs p ≡ [])
    -- the end, if the stream is whole and has the rows to skip
    pub end-exactly : (empty_of p (reading_at bs p) ≡ ended)
        ↔ ((ds : List Description) × (reading_at bs p ≡ whole ds) × (p.skip ≤ total_rows ds))
    -- 16, if it is whole and has not
    pub no-such-row : (ds : List Description) → reading_at bs p ≡ whole ds → total_rows ds < p.skip
        → empty_of p (reading_at bs p) ≡ refuses (refusing 16 0)
    -- or else the refusal that the stream reader answers with room enough: number, place and cut byte
    pub own-refusal : (f : Refusal) (rows bytes : ℕ) (last : LastRun)
        → stream_answer p.run (reading_at bs p) ≡ broke_at f rows bytes last → empty_of p (reading_at bs p) ≡ refuses f

abbrev pub AnySizes : Type 0
AnySizes = (signed : Bool) (bs : List ℕ) (p : Position) → AllBelow 256 bs
    → ((ns : List ℕ) → SeriesHolds signed bs p ns (series signed bs p ns)) × EmptyHolds signed bs p

-- ---- THROUGH AN INDEX: the entry of the right index that holds row r gives the position of row r
pub record EntryHolds (signed : Bool) (bs : List ℕ) (es : List Entry) (e : Entry) (r : ℕ) (i : IsIndex bs es) : Type 0 where
  pub rows : rows_at signed bs (record { run = e.at; skip = r - e.first }) ≡ drop r (joined_rows signed i.runs)
  pub batches : (n : ℕ) → batch signed n bs (record { run = e.at; skip = r - e.first }) ≡ batch signed n bs (record { run = 0; skip = r })

abbrev pub ThroughIndex : Type 0
ThroughIndex = (signed : Bool) (bs : List ℕ) (es : List Entry) (e : Entry) (r : ℕ) → AllBelow 256 bs → (i : IsIndex bs es)
    → Memᴰ e es → Holds e r
    → EntryHolds signed bs es e r i

-- ---- ANY TWO OUTCOMES that the promise allows are equal
abbrev pub Determined : Type 0
Determined = (input : List ℕ) (p : RowPosition) (signed : Bool) (out out' out'' : List ℤ) (r r' : Batch)
    → RowsRead input p signed out out' r → RowsRead input p signed out out'' r' → (r ≡ r') × (out' ≡ out'')
