-- THE PLANNER'S PROPOSAL has no one right value: how well it cuts is measured. What holds of it whatever it is: the check accepts it in as
-- much room as the direct runs of 64 bits take, and there is one wherever there are rows, and places for the direct runs. Assumes nothing.
use Rattle.std.specs.Prelude.{◌≡◌, ℕ, ◌+◌, ◌-◌, ◌*◌, ◌/◌, ◌<◌, ◌≤◌, min, Bool, true, false, ◌&&◌, List, length, take, ℤ, leb}
use Rattle.format.specs.Runs.{Description, joined}
use Rattle.proposer.specs.Proposed.{Proposed}
use Rattle.planner.specs.declared.segment.Segment.{Segment}
use Rattle.planner.specs.Check.{Columns, proposal, wide, planned, column}
use Rattle.planner.specs.Laws.{Accepted}
use Rattle.planner.specs.Walk.{segment_at}

-- the first k segments of the columns
abbrev pub first_of : ℕ → Columns → Columns
first_of k c = proposal (take k c.starts) (take k c.counts) (take k c.forms) (take k c.widths) (take k c.bases)

-- k segments that the check accepts in as much room as the direct runs of 64 bits take
pub record Sound (signed : Bool) (rows : List ℤ) (c : Columns) (k : ℕ) : Type 0 where
  pub runs : List Description
  pub places : Proposed c.starts c.counts c.forms c.widths c.bases k
  pub accepted : Accepted signed rows (first_of k c) (length (joined (wide signed rows))) runs

-- how many direct runs so many rows have, and whether each column has so many places
abbrev pub direct_runs : ℕ → ℕ
direct_runs rows = (rows + 511) / 512

abbrev pub have_places : ℕ → Columns → Bool
have_places n c =
    leb n (length c.starts) && leb n (length c.counts) && leb n (length c.forms) && leb n (length c.widths)
    && leb n (length c.bases)

-- THE PROMISE, of the columns as they stand at exit and of the number of segments that is answered: none where there are no rows, or where
-- a column has fewer places than there are direct runs; else a sound proposal
pub data Proposes (signed : Bool) (rows : List ℤ) (c : Columns) : ℕ → Type 0 where
  no_rows : length rows ≡ 0 → Proposes signed rows c 0
  no-places : have_places (direct_runs (length rows)) c ≡ false → Proposes signed rows c 0
  some : {k : ℕ} → 0 < length rows → Sound signed rows c k → Proposes signed rows c k

-- so with as many places as there are direct runs, rows have a proposal of one segment or more, and without rows there is none
pub record Proposing (signed : Bool) (rows : List ℤ) (c : Columns) (k : ℕ) : Type 0 where
  pub for-rows : 0 < length rows → have_places (direct_runs (length rows)) c ≡ true → (0 < k) × Sound signed rows c k
  pub for-none : length rows ≡ 0 → k ≡ 0
  pub when-none : k ≡ 0 → 0 < length rows → have_places (direct_runs (length rows)) c ≡ false

abbrev pub PlanProposes : Type 0
PlanProposes = (signed : Bool) (rows : List ℤ) (c : Columns) (k : ℕ) → Proposes signed rows c k → Proposing signed rows c k

-- so what is proposed is written as it is proposed wherever there is room, and has no more bytes than the direct runs
pub data AsProposed (signed : Bool) (rows : List ℤ) (c : Columns) : Type 0 where
  as-proposed : (ds : List Description) → length (joined ds) ≤ length (joined (wide signed rows))
      → ((room : ℕ) → length (joined ds) ≤ room → column signed rows c room ≡ planned ds) → AsProposed signed rows c

abbrev pub PlanHolds : Type 0
PlanHolds = (signed : Bool) (rows : List ℤ) (c : Columns) (k : ℕ) → Proposes signed rows c k → (k ≡ 0 → ⊥)
    → AsProposed signed rows (first_of k c)

-- ---- for the functions of the planner

-- what is kept of a proposal of any segments: none, or a sound one
pub data Kept (signed : Bool) (rows : List ℤ) (c : Columns) : ℕ → Type 0 where
  dropped : Kept signed rows c 0
  kept : {k : ℕ} → Sound signed rows c k → Kept signed rows c k

-- the k-th direct run of so many rows, as a segment: 512 rows, or the rest; form 1 is direct, and code 31 means 64 bits
abbrev pub direct_at : ℕ → ℕ → Segment
direct_at rows k = record { start = 512 * k; count = min 512 (rows - 512 * k); form = 1; width = 31; base = 0 }

-- the first n of them stand in the first places
abbrev pub DirectLaid : ℕ → Columns → ℕ → Type 0
DirectLaid rows c n = (k : ℕ) → k < n → segment_at c k ≡ direct_at rows k

-- the direct runs, where there are places for them
pub data Fallback (signed : Bool) (rows : List ℤ) (c : Columns) : ℕ → Type 0 where
  too_few : have_places (direct_runs (length rows)) c ≡ false → Fallback signed rows c 0
  laid : {k : ℕ} → Sound signed rows c k → Fallback signed rows c k

-- whether the rows are signed or not
abbrev pub FallsBack : List ℤ → Columns → ℕ → Type 0
FallsBack rows c k = (signed : Bool) → Fallback signed rows c k
