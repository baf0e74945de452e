-- What the check promises, whoever proposes. Assumes nothing.
use Rattle.std.specs.Prelude.{Option, Some, None, Result, Ok, Err}
use Rattle.std.specs.Prelude.{◌≡◌, ◌↔◌, ℕ, ◌+◌, ◌-◌, ◌*◌, ◌/◌, ◌<◌, ◌≤◌, min, Bool, true, List, [], ◌∷◌, ◌++◌, map, length, take, drop, get_or, ℤ}
use Rattle.format.specs.Digits.{AllBelow}
use Rattle.format.specs.Fields.{two64}
use Rattle.format.specs.Runs.{Description, AllValid, row_count, layout, joined}
use Rattle.format.specs.Parse.{got}
use Rattle.format.specs.Streams.{whole, read_all, total_rows, joined_rows}
use Rattle.format.specs.Answers.{refusing}
use Rattle.format.specs.Writing.{AllI64}
use Rattle.planner.specs.declared.Columned.{Columned}
use Rattle.planner.specs.declared.segment.Segment.{Segment}
use Rattle.planner.specs.declared.ColumnRuns.{ColumnRuns}
use Rattle.format.specs.declared.Refusal.{Refusal}
use Rattle.planner.specs.declared.ColumnRuns.TheVariants as answer
use Rattle.planner.specs.Check.{Columns, equal_lengths, segments, any_run, write_in, run_of, wide, Column, planned, direct, eight, column}
use Rattle.planner.specs.Check.{told, checked_as, Wrote}

-- Room enough is enough: what a writer accepts in some room is what it accepts with room for any run, where that room holds it.
abbrev pub RoomForAny : Type 0
RoomForAny =
    (signed : Bool) (form width base : ℕ) (part : List ℤ) (room : ℕ) (d : Description) (rest : List ℕ) → AllI64 part → base < two64
    → (write_in signed form width base part room ≡ got d rest)
    ↔ ((write_in signed form width base part any_run ≡ got d rest) × (length (layout d) ≤ room))

-- ---- ACCEPTED, in words: the rows of the segments before it say where a segment begins; all of them are the column's

abbrev pub sum_rows : List Segment → ℕ
sum_rows [] = 0
sum_rows (s ∷ ss) = s.count + sum_rows ss

pub record Covers (rows : ℕ) (ss : List Segment) : Type 0 where
  pub begins : (first : List Segment) (s : Segment) (others : List Segment) → ss ≡ first ++ (s ∷ others) → s.start ≡ sum_rows first
  pub ends : sum_rows ss ≡ rows

module _ (signed : Bool) (rows : List ℤ) where
  -- each segment's writer accepts it, with these runs
  pub data Accept : List Segment → List Description → Type 0 where
    none : Accept [] []
    more : {s : Segment} {ss : List Segment} {d : Description} {rest : List ℕ} {ds : List Description} → run_of signed rows s ≡ got d rest
        → Accept ss ds → Accept (s ∷ ss) (d ∷ ds)

  pub record Accepted (c : Columns) (room : ℕ) (ds : List Description) : Type 0 where
    pub equal : equal_lengths c ≡ true
    pub covering : Covers (length rows) (segments c)
    pub writers : Accept (segments c) ds
    pub fits : length (joined ds) ≤ room

  -- each answer, exactly when
  pub data Answers (c : Columns) (room : ℕ) : Column → Type 0 where
    as-planned : {ds : List Description} → Accepted c room ds → Answers c room (planned ds)
    as-direct : ((ds : List Description) → Accepted c room ds → ⊥) → length (joined (wide signed rows)) ≤ room
        → Answers c room (direct (wide signed rows))
    as-eight : ((ds : List Description) → Accepted c room ds → ⊥) → room < length (joined (wide signed rows)) → Answers c room eight

  pub data Checks (c : Columns) (room : ℕ) : Option Columned → Type 0 where
    accepts : {ds : List Description} → Accepted c room ds → Checks c room (Some (told ds))
    rejects : ((ds : List Description) → Accepted c room ds → ⊥) → Checks c room None

pub record CheckExactly (signed : Bool) (rows : List ℤ) (c : Columns) (room : ℕ) : Type 0 where
  pub checks : (r : Option Columned) → (checked_as signed rows c room ≡ r) ↔ Checks signed rows c room r
  pub writes : (r : Column) → (column signed rows c room ≡ r) ↔ Answers signed rows c room r

abbrev pub CheckExactlyHolds : Type 0
CheckExactlyHolds = (signed : Bool) (rows : List ℤ) (c : Columns) (room : ℕ) → CheckExactly signed rows c room

-- ---- THE DIRECT RUNS: 512 rows each and the rest last; two bytes a run and eight a row

pub record Wide (signed : Bool) (rows : List ℤ) : Type 0 where
  pub sizes : (k : ℕ) → get_or (map row_count (wide signed rows)) k 0 ≡ min 512 (length rows - 512 * k)
  pub bytes : length (joined (wide signed rows)) ≡ 2 * ((length rows + 511) / 512) + 8 * length rows

abbrev pub WideHolds : Type 0
WideHolds = (signed : Bool) (rows : List ℤ) → Wide signed rows

-- ---- WHATEVER THE PROPOSAL, what is written reads whole as exactly the rows; and nothing is written on 8

pub record Reads (signed : Bool) (rows : List ℤ) (out out' : List ℕ) (ds : List Description) : Type 0 where
  pub fits : length (joined ds) ≤ length out
  pub bytes : take (length (joined ds)) out' ≡ joined ds
  pub others : drop (length (joined ds)) out' ≡ drop (length (joined ds)) out
  pub valid : AllValid ds
  pub rows_are : joined_rows signed ds ≡ rows
  pub count : total_rows ds ≡ length rows
  pub reads : (n : ℕ) → length rows ≤ n → read_all n (take (length (joined ds)) out') ≡ whole ds

pub data WhateverProposed (signed : Bool) (rows : List ℤ) (out out' : List ℕ) : Result ColumnRuns Refusal → Type 0 where
  when-planned : {ds : List Description} → Reads signed rows out out' ds → WhateverProposed signed rows out out' (Ok (answer.Planned (told ds)))
  when-direct : {ds : List Description} → Reads signed rows out out' ds → WhateverProposed signed rows out out' (Ok (answer.Direct (told ds)))
  when-eight : out' ≡ out → WhateverProposed signed rows out out' (Err (refusing 8 0))

-- the proposal is any five columns of u64
abbrev pub Whatever : Type 0
Whatever =
    (signed : Bool) (rows : List ℤ) (c : Columns) (out out' : List ℕ) (r : Result ColumnRuns Refusal) → AllI64 rows → AllBelow two64 c.bases
    → Wrote signed rows c out out' r → WhateverProposed signed rows out out' r

-- ---- any two outcomes that the promises allow are equal

abbrev pub CheckDetermined : Type 0
CheckDetermined =
    (signed : Bool) (rows : List ℤ) (c : Columns) (room : ℕ) (r r' : Option Columned) → r ≡ checked_as signed rows c room
    → r' ≡ checked_as signed rows c room → r ≡ r'

abbrev pub ColumnDetermined : Type 0
ColumnDetermined =
    (signed : Bool) (rows : List ℤ) (c : Columns) (out o o' : List ℕ) (r r' : Result ColumnRuns Refusal)
    → Wrote signed rows c out o r → Wrote signed rows c out o' r' → (r ≡ r') × (o ≡ o')
