-- What is proved of rows rescued by positions: statements over every input of bytes, all groups, every fill row and both flags.
-- Assumes nothing.
use Rattle.std.specs.Prelude.{◌≡◌, ◌↔◌, ◌⊎◌, ℕ, ◌+◌, ◌-◌, ◌<◌, ◌≤◌, Bool, not, List, [], ◌∷◌, ◌++◌, map, length, take, drop, get_or, replicate, T, eqb, ℤ}
use Rattle.format.specs.Digits.{AllBelow}
use Rattle.format.specs.Fields.{pick}
use Rattle.format.specs.Runs.{Description, row_count, layout, joined}
use Rattle.format.specs.Streams.{whole, stream, runs_of, total_rows, joined_rows}
use Rattle.batches.specs.Batches.{Position, RowBatch, gives, position_of, reading_at, batch}
use Rattle.batches.specs.BatchSteps.{Stands}
use Rattle.rescue.specs.Rescue.{position, at, nowhere, made_plain, meets, Group, positions, groups, beginning, in_order, after_rows}
use Rattle.rescue.specs.Rescue.{kept, verdict, own_rows, group_rows, rescued_rows, verdicts, RescueOutcome, refused, rescued, sum}
use Rattle.rescue.specs.Rescue.{rescuing}
use Rattle.rescue.specs.RescuePromise.{Rescued, RowsRescued}

-- ---- MADE PLAIN, as one walks: by what stands at the byte
pub record PlainHolds (bs : List ℕ) (b skip : ℕ) : Type 0 where
  -- with no row to skip nothing is read
  pub still : made_plain bs (position b 0) ≡ at (position b 0)
  -- a run with more rows than are to be skipped holds the row, and any other is passed
  pub held : (d : Description) → Stands bs b d → skip < row_count d → made_plain bs (position b skip) ≡ at (position b skip)
  pub passed : (d : Description) → Stands bs b d → row_count d ≤ skip
      → made_plain bs (position b skip) ≡ made_plain bs (position (b + length (layout d)) (skip - row_count d))
  -- no run there, or one that is refused
  pub unread : runs_of (reading_at bs (position b skip)) ≡ [] → 0 < skip → made_plain bs (position b skip) ≡ nowhere
  -- what is plain stays so
  pub twice : (q : Position) → made_plain bs (position b skip) ≡ at q → made_plain bs q ≡ at q

abbrev pub EveryPosition : Type 0
EveryPosition = (bs : List ℕ) (b skip : ℕ) → AllBelow 256 bs → PlainHolds bs b skip

-- ---- A GROUP

-- the runs from its position's byte on
abbrev pub runs_at : List ℕ → Group → List Description
runs_at bs g = runs_of (reading_at bs g.from)

abbrev pub counts : List Group → List ℕ
counts gs = map (λ g. g.count) gs

abbrev pub starts : List Group → List Position
starts gs = map (λ g. g.from) gs

module _ (signed : Bool) (fill : ℤ) (bs : List ℕ) where
  pub record GroupHolds (g : Group) (next : Position) : Type 0 where
    -- it is kept exactly if there are rows enough, and the next position made plain is that of the row after them
    pub exactly : T (kept bs g next)
        ↔ (((after_rows g).skip ≤ total_rows (runs_at bs g))
        × (made_plain bs next ≡ at (position_of g.from.run (after_rows g).skip (runs_at bs g))))
    -- in the words of batches: a call with as many places gives all its rows, and leaves the next position made plain
    pub by-batch : 0 < g.count → T (kept bs g next)
        ↔ ((b : RowBatch) × (batch signed g.count bs g.from ≡ gives b) × (length b.rows ≡ g.count)
        × (made_plain bs next ≡ at b.next))
    -- a group of no rows begins where the next one does
    pub of-no-rows : g.count ≡ 0 → kept bs g next ≡ meets (made_plain bs g.from) (made_plain bs next)
    -- its rows are then those read from its position on, and otherwise each is the fill row
    pub as_read : T (kept bs g next) → group_rows signed fill bs g next ≡ own_rows signed bs g
    pub as-fill : T (not (kept bs g next)) → group_rows signed fill bs g next ≡ replicate g.count fill
    pub many : length (group_rows signed fill bs g next) ≡ g.count

  -- ---- ALL GROUPS: as many rows as the counts' sum, each group at its place, with its verdict
  pub record AllHold (gs : List Group) : Type 0 where
    pub many : length (rescued_rows signed fill bs gs) ≡ sum (counts gs)
    pub marks : length (verdicts bs gs) ≡ length gs
    pub rows : (before later : List Group) (g : Group) → gs ≡ before ++ (g ∷ later)
        → take g.count (drop (sum (counts before)) (rescued_rows signed fill bs gs))
        ≡ group_rows signed fill bs g (beginning (length bs) later)
    pub mark : (before later : List Group) (g : Group) → gs ≡ before ++ (g ∷ later)
        → get_or (verdicts bs gs) (length before) 0 ≡ verdict (kept bs g (beginning (length bs) later))

abbrev pub EveryGroup : Type 0
EveryGroup = (signed : Bool) (fill : ℤ) (bs : List ℕ) (g : Group) (next : Position) → GroupHolds signed fill bs g next

abbrev pub EveryList : Type 0
EveryList = (signed : Bool) (fill : ℤ) (bs : List ℕ) (gs : List Group) → AllHold signed fill bs gs

-- ---- A WHOLE STREAM WITH TRUE POSITIONS

-- each group's position, plain or not, is that of row k, if k rows are in the groups before it; together they have all rows
abbrev pub TrueFrom : List ℕ → List Description → ℕ → List Group → Type 0
TrueFrom bs ds k [] = k ≡ total_rows ds
TrueFrom bs ds k (g ∷ gs) = (made_plain bs g.from ≡ at (position_of 0 k ds)) × TrueFrom bs ds (k + g.count) gs

-- row k has such positions: its own, which is plain, and that of the stream's beginning with all k rows to skip
abbrev pub TrueRows : Type 0
TrueRows = (bs : List ℕ) (ds : List Description) (k : ℕ) → AllBelow 256 bs → stream bs ≡ whole ds → k ≤ total_rows ds
    → (made_plain bs (position_of 0 k ds) ≡ at (position_of 0 k ds)) × (made_plain bs (position 0 k) ≡ at (position_of 0 k ds))

-- True positions are in order exactly if the first is (0, 0) and no byte falls: no skip falls at the same byte then, and no byte passes the
-- end.
abbrev pub FromStart : List Group → Type 0
FromStart [] = Unit {0}
FromStart (g ∷ gs) = g.from ≡ position 0 0

abbrev pub BytesRise : ℕ → List Group → Type 0
BytesRise b [] = Unit {0}
BytesRise b (g ∷ gs) = (b ≤ g.from.run) × BytesRise g.from.run gs

abbrev pub TrueOrder : Type 0
TrueOrder = (bs : List ℕ) (ds : List Description) (gs : List Group) → AllBelow 256 bs → stream bs ≡ whole ds → TrueFrom bs ds 0 gs
    → T (in_order (length bs) (starts gs)) ↔ (FromStart gs × BytesRise 0 gs)

-- the stream comes out as its rows, and every group is kept
abbrev pub WholeKept : Type 0
WholeKept = (signed : Bool) (fill : ℤ) (bs : List ℕ) (ds : List Description) (gs : List Group) → AllBelow 256 bs → stream bs ≡ whole ds
    → TrueFrom bs ds 0 gs
    → (rescued_rows signed fill bs gs ≡ joined_rows signed ds) × (verdicts bs gs ≡ replicate (length gs) 1)

-- the plain positions of any cut of the rows into groups, from row k on
unfoldable pub cut_from : List Description → ℕ → List ℕ → List Position
cut_from ds k [] = []
cut_from ds k (n ∷ ns) = position_of 0 k ds ∷ cut_from ds (k + n) ns

-- ---- DAMAGE STAYS WHERE IT IS

-- how many bytes the runs of the first k rows have: no run for no row
unfoldable pub span : ℕ → List Description → ℕ
span k [] = 0
span k (d ∷ ds) = pick (eqb k 0) 0 (length (layout d) + span (k - row_count d) ds)

-- a group's own bytes, from its position's byte on: the runs that the position passes, and those that hold its rows
abbrev pub own_bytes : List ℕ → Group → ℕ
own_bytes bs g = span (after_rows g).skip (runs_at bs g)

-- another input has the same bytes there
abbrev pub SameBytes : Group → List ℕ → List ℕ → Type 0
SameBytes g bs cs = take (own_bytes bs g) (drop g.from.run bs) ≡ take (own_bytes bs g) (drop g.from.run cs)

-- a kept group is kept with the same rows whatever all other bytes are, if the next position is the same
abbrev pub KeptStays : Type 0
KeptStays = (signed : Bool) (fill : ℤ) (bs cs : List ℕ) (g : Group) (next : Position) → AllBelow 256 bs → AllBelow 256 cs
    → g.from.run ≤ next.run → SameBytes g bs cs → T (kept bs g next)
    → T (kept cs g next) × (group_rows signed fill cs g next ≡ group_rows signed fill bs g next)

-- .. and so in a list in order: with bytes changed anywhere else, and none added or lost, its rows and its verdict stay as they were
abbrev pub DamageStays : Type 0
DamageStays = (signed : Bool) (fill : ℤ) (bs cs : List ℕ) (before later : List Group) (g : Group) → AllBelow 256 bs → AllBelow 256 cs
    → length cs ≡ length bs → T (in_order (length bs) (starts (before ++ (g ∷ later)))) → SameBytes g bs cs
    → T (kept bs g (beginning (length bs) later))
    → let gs = before ++ (g ∷ later) in let place = sum (counts before) in
    (take g.count (drop place (rescued_rows signed fill cs gs)) ≡ take g.count (drop place (rescued_rows signed fill bs gs)))
    × (get_or (verdicts cs gs) (length before) 0 ≡ 1)

-- A damaged stream: of a whole stream with its true positions, every group whose own bytes are unchanged comes out with its true rows
abbrev pub DamagedStream : Type 0
DamagedStream = (signed : Bool) (fill : ℤ) (bs cs : List ℕ) (ds : List Description) (before later : List Group) (g : Group)
    → AllBelow 256 bs → AllBelow 256 cs → length cs ≡ length bs → stream bs ≡ whole ds → TrueFrom bs ds 0 (before ++ (g ∷ later))
    → T (in_order (length bs) (starts (before ++ (g ∷ later)))) → SameBytes g bs cs
    → let gs = before ++ (g ∷ later) in let place = sum (counts before) in
    (take g.count (drop place (rescued_rows signed fill cs gs)) ≡ take g.count (drop place (joined_rows signed ds)))
    × (get_or (verdicts cs gs) (length before) 0 ≡ 1)

-- A damaged run d, which comes after the runs ds: another input of the same length differs in its bytes alone.
pub record RunDamaged (ds : List Description) (d : Description) (bs cs : List ℕ) : Type 0 where
  pub long : length cs ≡ length bs
  pub before : take (length (joined ds)) bs ≡ take (length (joined ds)) cs
  pub later : drop (length (joined ds) + length (layout d)) bs ≡ drop (length (joined ds) + length (layout d)) cs

-- It costs no group whose rows are all before it, or whose listed byte is after it. A position before it, of a row after it, passes it, and
-- that may cost the group, though it has no row of it (`RescueExamples`: `passed-damaged`).
abbrev pub DamagedRun : Type 0
DamagedRun = (signed : Bool) (fill : ℤ) (bs cs : List ℕ) (ds es : List Description) (d : Description) (before later : List Group)
    (g : Group) → AllBelow 256 bs → AllBelow 256 cs → stream bs ≡ whole (ds ++ (d ∷ es)) → RunDamaged ds d bs cs
    → TrueFrom bs (ds ++ (d ∷ es)) 0 (before ++ (g ∷ later)) → T (in_order (length bs) (starts (before ++ (g ∷ later))))
    → (sum (counts before) + g.count ≤ total_rows ds) ⊎ (length (joined ds) + length (layout d) ≤ g.from.run)
    → let gs = before ++ (g ∷ later) in let place = sum (counts before) in
    (take g.count (drop place (rescued_rows signed fill cs gs)) ≡ take g.count (drop place (joined_rows signed (ds ++ (d ∷ es)))))
    × (get_or (verdicts cs gs) (length before) 0 ≡ 1)

-- So with plain positions it costs the groups that have rows of it, and no other: here n rows after those of ns, all before it or after it
abbrev pub DamagedCut : Type 0
DamagedCut = (signed : Bool) (fill : ℤ) (bs cs : List ℕ) (ds es : List Description) (d : Description) (ns ms : List ℕ) (n : ℕ)
    → AllBelow 256 bs → AllBelow 256 cs → stream bs ≡ whole (ds ++ (d ∷ es)) → RunDamaged ds d bs cs
    → sum (ns ++ (n ∷ ms)) ≡ total_rows (ds ++ (d ∷ es)) → (sum ns + n ≤ total_rows ds) ⊎ (total_rows ds + row_count d ≤ sum ns)
    → let gs = groups (cut_from (ds ++ (d ∷ es)) 0 (ns ++ (n ∷ ms))) (ns ++ (n ∷ ms)) in
    (take n (drop (sum ns) (rescued_rows signed fill cs gs)) ≡ take n (drop (sum ns) (joined_rows signed (ds ++ (d ∷ es)))))
    × (get_or (verdicts cs gs) (length ns) 0 ≡ 1)

-- ---- THE CALL: 17 exactly if the columns or positions are wrong, then 8 exactly if a place is missing; otherwise rows and verdicts

pub record Listed (bs rs ss ns : List ℕ) : Type 0 where
  pub skips-long : length rs ≡ length ss
  pub counts-long : length rs ≡ length ns
  pub order : T (in_order (length bs) (positions rs ss))

pub record Room (ns : List ℕ) (places marks : ℕ) : Type 0 where
  pub rows_fit : sum ns ≤ places
  pub marks-fit : length ns ≤ marks

pub record CallHolds (signed : Bool) (fill : ℤ) (bs rs ss ns : List ℕ) (places marks : ℕ) (m : RescueOutcome) : Type 0 where
  pub is-17 : (m ≡ refused 17) ↔ (Listed bs rs ss ns → ⊥)
  pub is-8 : (m ≡ refused 8) ↔ (Listed bs rs ss ns × (Room ns places marks → ⊥))
  pub otherwise : (rows : List ℤ) (vs : List ℕ) → (m ≡ rescued rows vs)
      ↔ (Listed bs rs ss ns × Room ns places marks × (rows ≡ rescued_rows signed fill bs (groups (positions rs ss) ns))
      × (vs ≡ verdicts bs (groups (positions rs ss) ns)))

abbrev pub EveryCall : Type 0
EveryCall = (signed : Bool) (fill : ℤ) (bs rs ss ns : List ℕ) (places marks : ℕ)
    → CallHolds signed fill bs rs ss ns places marks (rescuing signed fill bs rs ss ns places marks)

-- with places enough, a whole stream with its true positions comes out as its rows
abbrev pub WholeCall : Type 0
WholeCall = (signed : Bool) (fill : ℤ) (bs rs ss ns : List ℕ) (places marks : ℕ) (ds : List Description) → AllBelow 256 bs
    → stream bs ≡ whole ds → Listed bs rs ss ns → Room ns places marks → TrueFrom bs ds 0 (groups (positions rs ss) ns)
    → rescuing signed fill bs rs ss ns places marks ≡ rescued (joined_rows signed ds) (replicate (length ns) 1)

-- plain positions are listed right, so with places enough every cut of a whole stream comes out as its rows
abbrev pub EveryCut : Type 0
EveryCut = (signed : Bool) (fill : ℤ) (bs ns : List ℕ) (places marks : ℕ) (ds : List Description) → AllBelow 256 bs → stream bs ≡ whole ds
    → sum ns ≡ total_rows ds → Room ns places marks
    → let ps = cut_from ds 0 ns in
    rescuing signed fill bs (map (λ p. p.run) ps) (map (λ p. p.skip) ps) ns places marks
    ≡ rescued (joined_rows signed ds) (replicate (length ns) 1)

-- ---- ANY TWO OUTCOMES that the promise allows are equal
abbrev pub Determined : Type 0
Determined = (input : List ℕ) (signed : Bool) (rs ss ns : List ℕ) (fill : ℤ) (rows rows' rows'' : List ℤ) (marks marks' marks'' : List ℕ)
    (r r' : Rescued) → RowsRescued input signed rs ss ns fill rows rows' marks marks' r
    → RowsRescued input signed rs ss ns fill rows rows'' marks marks'' r' → (r ≡ r') × (rows' ≡ rows'') × (marks' ≡ marks'')
