-- Rows rescued by positions (FORMAT.md, "Rows rescued by positions"): the row groups of a damaged stream, each with the position of its
-- first row and its number of rows; which of them are kept, and the rows of all. Assumes nothing.
use Rattle.std.specs.Prelude.{ℕ, ◌+◌, Bool, true, false, not, ◌&&◌, ◌||◌, List, [], ◌∷◌, ◌++◌, length, take, replicate, leb, ltb, eqb, ℤ}
use Rattle.format.specs.Fields.{pick}
use Rattle.format.specs.Streams.{runs_of, total_rows}
use Rattle.batches.specs.Batches.{Position, position_of, rows_left, reading_at}

abbrev pub position : ℕ → ℕ → Position
position run skip = record { run = run; skip = skip }

-- ---- MADE PLAIN: whole runs are passed while the skip is at least their rows; with no row to skip no run is looked at. If there are fewer
-- rows than the skip before the end or the first refused run, the position is nowhere.

pub data PlainPosition : Type 0 where
  at : Position → PlainPosition
  nowhere : PlainPosition

unfoldable pub made_plain : List ℕ → Position → PlainPosition
made_plain bs p =
    let ds = runs_of (reading_at bs p) in
    pick (leb p.skip (total_rows ds)) (at (position_of p.run p.skip ds)) nowhere

-- both are somewhere, and equal
abbrev pub meets : PlainPosition → PlainPosition → Bool
meets (at p) (at q) = eqb p.run q.run && eqb p.skip q.skip
meets (at p) nowhere = false
meets nowhere q = false

-- ---- GROUPS

pub record Group : Type 0 where
  pub from : Position
  pub count : ℕ

abbrev pub group : Position → ℕ → Group
group p n = record { from = p; count = n }

-- two columns side by side
unfoldable pub paired : {A B C : Type 0} → (A → B → C) → List A → List B → List C
paired f [] ys = []
paired f (x ∷ xs) [] = []
paired f (x ∷ xs) (y ∷ ys) = f x y ∷ paired f xs ys

abbrev pub positions : List ℕ → List ℕ → List Position
positions rs ss = paired position rs ss

abbrev pub groups : List Position → List ℕ → List Group
groups ps ns = paired group ps ns

-- where a list of groups begins: at the first group's position, or with no group at the input's end
abbrev pub beginning : ℕ → List Group → Position
beginning end [] = position end 0
beginning end (g ∷ gs) = g.from

-- ---- POSITIONS IN ORDER: no byte falls or passes the end, and at the same byte no skip falls

abbrev pub not_after : Position → Position → Bool
not_after p q = ltb p.run q.run || (eqb p.run q.run && leb p.skip q.skip)

unfoldable pub rising : ℕ → Position → List Position → Bool
rising end p [] = leb p.run end
rising end p (q ∷ ps) = not_after p q && rising end q ps

-- the first is (0, 0); an empty list is in order only if the input is empty
unfoldable pub in_order : ℕ → List Position → Bool
in_order end [] = eqb end 0
in_order end (p ∷ ps) = eqb p.run 0 && (eqb p.skip 0 && rising end p ps)

-- ---- A GROUP

-- the position after its rows, not yet made plain
abbrev pub after_rows : Group → Position
after_rows g = position g.from.run (g.from.skip + g.count)

-- where it ends: nowhere if there are fewer rows
abbrev pub end_of : List ℕ → Group → PlainPosition
end_of bs g = made_plain bs (after_rows g)

-- A group is KEPT exactly if it ends where the next one begins.
unfoldable pub kept : List ℕ → Group → Position → Bool
kept bs g next = meets (end_of bs g) (made_plain bs next)

-- a byte a group: 1 kept, 0 replaced
abbrev pub verdict : Bool → ℕ
verdict keep = pick keep 1 0

-- its rows, as they are read from its position on
abbrev pub own_rows : Bool → List ℕ → Group → List ℤ
own_rows signed bs g = take g.count (rows_left signed g.from (reading_at bs g.from))

-- .. if it is kept; otherwise each row is the fill row
unfoldable pub group_rows : Bool → ℤ → List ℕ → Group → Position → List ℤ
group_rows signed fill bs g next = pick (kept bs g next) (own_rows signed bs g) (replicate g.count fill)

-- ---- ALL GROUPS, one after the other

unfoldable pub rescued_rows : Bool → ℤ → List ℕ → List Group → List ℤ
rescued_rows signed fill bs [] = []
rescued_rows signed fill bs (g ∷ gs) = group_rows signed fill bs g (beginning (length bs) gs) ++ rescued_rows signed fill bs gs

unfoldable pub verdicts : List ℕ → List Group → List ℕ
verdicts bs [] = []
verdicts bs (g ∷ gs) = verdict (kept bs g (beginning (length bs) gs)) ∷ verdicts bs gs

-- ---- A CALL: a refusal, or the rows and the verdicts

pub data RescueOutcome : Type 0 where
  refused : ℕ → RescueOutcome
  rescued : List ℤ → List ℕ → RescueOutcome

-- refuse with a number if the test passes, and else go on
abbrev pub refuse_if : Bool → ℕ → RescueOutcome → RescueOutcome
refuse_if true n m = refused n
refuse_if false n m = m

-- the columns are of one length, and their positions in order
abbrev pub listed : List ℕ → List ℕ → List ℕ → List ℕ → Bool
listed bs rs ss ns = eqb (length rs) (length ss) && (eqb (length rs) (length ns) && in_order (length bs) (positions rs ss))

-- a sum of whole numbers, of any size
unfoldable pub sum : List ℕ → ℕ
sum [] = 0
sum (n ∷ ns) = n + sum ns

-- by the columns of bytes, skips and counts, and the number of places for rows and for verdicts: 17, then 8
unfoldable pub rescuing : Bool → ℤ → List ℕ → List ℕ → List ℕ → List ℕ → ℕ → ℕ → RescueOutcome
rescuing signed fill bs rs ss ns places marks =
    let gs = groups (positions rs ss) ns in
    refuse_if (not (listed bs rs ss ns)) 17
    (refuse_if (ltb places (sum ns) || ltb marks (length ns)) 8
    (rescued (rescued_rows signed fill bs gs) (verdicts bs gs)))
