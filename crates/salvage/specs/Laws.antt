-- What is proved of salvage: statements over every stream of bytes, all starts and counts, every fill row and both flags.
-- Assumes nothing.
use Rattle.std.specs.Prelude.{◌≡◌, ◌↔◌, ℕ, ◌+◌, ◌*◌, ◌/◌, ◌≤◌, Bool, List, [], ◌∷◌, ◌++◌, map, length, take, drop, replicate, T, ℤ}
use Rattle.std.specs.Int.{w64}
use Rattle.std.proofs.Common.{SFits}
use Rattle.format.specs.declared.Form.TheVariants.{FixedDelta}
use Rattle.format.specs.Digits.{AllBelow, sum}
use Rattle.format.specs.Fields.{pick, shortest}
use Rattle.format.specs.Runs.{Description, AllValid, head, layout, joined}
use Rattle.format.specs.Rows.{as_u64}
use Rattle.format.specs.Parse.{got}
use Rattle.format.specs.Streams.{whole, read_all, stream, runs_of, total_rows, joined_rows}
use Rattle.format.specs.Writing.{stored, writing}
use Rattle.salvage.specs.Salvage.{Outcome, Group, groups, starts_right, kept, fill_run, fill_runs, mended, salvaged, report, Call, refused}
use Rattle.salvage.specs.Salvage.{written, salvaging, written_of, refused_with, Salvaged}

-- each group's bytes are bytes
abbrev pub AllBytes : List Group → Type 0
AllBytes [] = Unit {0}
AllBytes (g ∷ gs) = AllBelow 256 g.bytes × AllBytes gs

abbrev pub AllKept : List Group → Type 0
AllKept [] = Unit {0}
AllKept (g ∷ gs) = T (kept g) × AllKept gs

abbrev pub counts : List Group → List ℕ
counts gs = map (λ g. g.rows) gs

-- the groups' bytes, joined; and where each of them begins, the first at s
unfoldable pub joined_groups : List Group → List ℕ
joined_groups [] = []
joined_groups (g ∷ gs) = g.bytes ++ joined_groups gs

unfoldable pub starts_from : ℕ → List Group → List ℕ
starts_from s [] = []
starts_from s (g ∷ gs) = s ∷ starts_from (s + length g.bytes) gs

-- every group but the last lists a row at least
abbrev pub SomeRows : List Group → Type 0
SomeRows [] = Unit {0}
SomeRows (g ∷ []) = Unit {0}
SomeRows (g ∷ h ∷ gs) = (1 ≤ g.rows) × SomeRows (h ∷ gs)

-- the true groups of runs: their bytes, and their rows
abbrev pub true_groups : List (List Description) → List Group
true_groups dss = map (λ ds. record { bytes = joined ds; rows = total_rows ds }) dss

abbrev pub AllValidGroups : List (List Description) → Type 0
AllValidGroups [] = Unit {0}
AllValidGroups (ds ∷ dss) = AllValid ds × AllValidGroups dss

-- starts and counts in order
pub record RightStarts (bs starts ns : List ℕ) : Type 0 where
  pub lengths : length starts ≡ length ns
  pub right : T (starts_right (length bs) starts)

-- both outputs have room
pub record Room (places lines : ℕ) (new text : List ℕ) : Type 0 where
  pub stream : length new ≤ places
  pub lines_fit : length text ≤ lines

module _ (signed : Bool) (fill : ℤ) where
  -- the rows of a kept group are those of its bytes; all others are the fill row
  unfoldable pub group_rows : Group → List ℤ
  group_rows g = pick (kept g) (joined_rows signed (runs_of (stream g.bytes))) (replicate g.rows fill)

  -- the groups as they stand in the new stream
  unfoldable pub renewed : List Group → List Group
  renewed gs = map (λ g. record { bytes = mended signed fill g; rows = g.rows }) gs

  -- ---- A FILL RUN is what the writer writes of the rows, with delta 0
  pub record FillHolds (n : ℕ) : Type 0 where
    pub as_written : (places : ℕ) → length (layout (fill_run signed fill n)) ≤ places
        → writing signed FixedDelta 0 (map as_u64 (replicate n fill)) places ≡ got (fill_run signed fill n) []
    pub bytes : layout (fill_run signed fill n) ≡ head 3 0 n ++ (shortest (stored signed (as_u64 fill)) ++ (0 ∷ []))

  -- what stands for a group of n rows: one run for each 512 rows begun, all of one size
  abbrev pub FillSize : ℕ → Type 0
  FillSize n = length (joined (fill_runs signed fill n)) ≡ (n + 511) / 512 * (3 + length (shortest (stored signed (as_u64 fill))))

  -- ---- A GROUP IS KEPT exactly if its bytes are the joined layouts of valid runs with its rows in all
  pub record KeptHolds (g : Group) : Type 0 where
    pub exactly : T (kept g) ↔ ((ds : List Description) × AllValid ds × (g.bytes ≡ joined ds) × (total_rows ds ≡ g.rows))
    pub same_bytes : T (kept g) → mended signed fill g ≡ g.bytes

  -- ---- THE NEW STREAM reads whole, with no condition; its rows are the
  -- listed ones in all, those of each group standing at their listed place
  pub record SalvagedHolds (gs : List Group) : Type 0 where
    pub runs : List Description
    pub reads_whole : stream (salvaged signed fill gs) ≡ whole runs
    pub in-places : (n : ℕ) → sum (counts gs) ≤ n → read_all n (salvaged signed fill gs) ≡ whole runs
    pub total : total_rows runs ≡ sum (counts gs)
    pub rows : (before behind : List Group) (g : Group) → gs ≡ before ++ (g ∷ behind)
        → take g.rows (drop (sum (counts before)) (joined_rows signed runs)) ≡ group_rows g
    -- all kept: nothing changes
    pub unchanged : AllKept gs → salvaged signed fill gs ≡ joined_groups gs
    -- in the new stream every group is kept, so that salvaging it again changes nothing
    pub all-kept : AllKept (renewed gs)
    pub again : salvaged signed fill (renewed gs) ≡ salvaged signed fill gs

  -- ---- THE CALL: 17 exactly if the starts are wrong, then 8 exactly if a place is missing; otherwise the groups' new stream and report
  pub record CallHolds (bs starts ns : List ℕ) (places lines : ℕ) (m : Call) : Type 0 where
    pub is-17 : (m ≡ refused 17) ↔ (RightStarts bs starts ns → ⊥)
    pub is-8 : (m ≡ refused 8)
        ↔ (RightStarts bs starts ns × (Room places lines (salvaged signed fill (groups bs starts ns)) (report 0 (groups bs starts ns)) → ⊥))
    pub otherwise : (new text : List ℕ)
        → (m ≡ written new text)
        ↔ (RightStarts bs starts ns × (new ≡ salvaged signed fill (groups bs starts ns)) × (text ≡ report 0 (groups bs starts ns))
        × Room places lines new text)

  -- ---- BY STARTS AND COUNTS
  pub record StartsHold : Type 0 where
    -- right starts cut the stream into groups that make it up, of the counts listed
    pub make-up : (bs starts ns : List ℕ) → RightStarts bs starts ns
        → (joined_groups (groups bs starts ns) ≡ bs) × (counts (groups bs starts ns) ≡ ns)
    pub of-bytes : (bs starts ns : List ℕ) → AllBelow 256 bs → AllBytes (groups bs starts ns)
    -- and any groups are those of their joined bytes, with their own starts
    pub back : (gs : List Group) → groups (joined_groups gs) (starts_from 0 gs) (counts gs) ≡ gs
    -- bytes changed within one group leave every other group as it was
    pub damage : (before behind : List Group) (g : Group) (b : List ℕ) → length b ≡ length g.bytes
        → groups (joined_groups (before ++ (record { bytes = b; rows = g.rows } ∷ behind))) (starts_from 0 (before ++ (g ∷ behind)))
        (counts (before ++ (g ∷ behind)))
        ≡ before ++ (record { bytes = b; rows = g.rows } ∷ behind)
    -- a whole stream with its true groups is all kept, and comes out byte for byte
    pub true-kept : (dss : List (List Description)) → AllValidGroups dss → AllKept (true_groups dss)
    pub true-groups : (dss : List (List Description)) → AllValidGroups dss → (bs : List ℕ) → bs ≡ joined_groups (true_groups dss)
        → T (starts_right (length bs) (starts_from 0 (true_groups dss))) → (places lines : ℕ) → length bs ≤ places
        → length (report 0 (true_groups dss)) ≤ lines
        → salvaging signed fill bs (starts_from 0 (true_groups dss)) (counts (true_groups dss)) places lines
        ≡ written bs (report 0 (true_groups dss))
    -- the new starts are right exactly if no group but the last lists 0 rows (such a group becomes no bytes) ..
    pub new-starts : (gs : List Group) → AllBytes gs
        → T (starts_right (length (salvaged signed fill gs)) (starts_from 0 (renewed gs))) ↔ SomeRows gs
    -- .. and salvaging the new stream with them gives the same stream
    pub twice : (gs : List Group) → AllBytes gs → SomeRows gs → (places lines : ℕ) → length (salvaged signed fill gs) ≤ places
        → length (report 0 (renewed gs)) ≤ lines
        → salvaging signed fill (salvaged signed fill gs) (starts_from 0 (renewed gs)) (counts gs) places lines
        ≡ written (salvaged signed fill gs) (report 0 (renewed gs))

-- ---- ALL OF IT, for every fill row that is an i64
pub record SalvageHolds (signed : Bool) (fill : ℤ) : Type 0 where
  pub fill-run : (n : ℕ) → 1 ≤ n → n ≤ 512 → FillHolds signed fill n
  pub fill-size : (n : ℕ) → FillSize signed fill n
  pub keeps : (g : Group) → AllBelow 256 g.bytes → KeptHolds signed fill g
  pub salvages : (gs : List Group) → AllBytes gs → SalvagedHolds signed fill gs
  pub calls : (bs starts ns : List ℕ) (places lines : ℕ)
      → CallHolds signed fill bs starts ns places lines (salvaging signed fill bs starts ns places lines)
  pub starts : StartsHold signed fill

abbrev pub SalvageProved : Type 0
SalvageProved = (signed : Bool) (fill : ℤ) → SFits w64 fill → SalvageHolds signed fill

-- ---- THE PROMISE, as a caller has it

module _ (input starts ns : List ℕ) (out out' lines lines' : List ℕ) (r : Outcome) where
  pub record SalvageGives : Type 0 where
    -- where bytes were written, they read whole, with the sum of the listed counts for their rows
    pub reads : (m k : ℕ) → r ≡ written_of m k → (ds : List Description) × (stream (take m out') ≡ whole ds) × (total_rows ds ≡ sum ns)
    -- a refused call leaves every byte as it was
    pub untouched : (n : ℕ) → r ≡ refused_with n → (out' ≡ out) × (lines' ≡ lines)

abbrev pub SalvageGiven : Type 0
SalvageGiven =
    (input starts ns : List ℕ) (fill : ℤ) (signed : Bool) (out out' lines lines' : List ℕ) (r : Outcome) → SFits w64 fill
    → AllBelow 256 input
    → Salvaged input starts ns fill signed out out' lines lines' r → SalvageGives input starts ns out out' lines lines' r

-- any two outcomes that the promise allows are equal
abbrev pub SalvageDetermined : Type 0
SalvageDetermined =
    (input starts ns : List ℕ) (fill : ℤ) (signed : Bool) (out out' out'' lines lines' lines'' : List ℕ) (r r' : Outcome)
    → Salvaged input starts ns fill signed out out' lines lines' r → Salvaged input starts ns fill signed out out'' lines lines'' r'
    → (out' ≡ out'') × (lines' ≡ lines'') × (r ≡ r')
