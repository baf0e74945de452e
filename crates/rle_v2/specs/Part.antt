-- A part of a direct run: its rows from a row on, as many as there are places. Assumes nothing.
use Rattle.std.specs.Prelude.{◌≡◌, ℕ, ◌+◌, ◌*◌, ◌≤◌, Bool, List, [], ◌++◌, map, length, take, drop, ltb, ℤ, Option, Some, None}
use Rattle.format.specs.Fields.{pick, bytes_for}
use Rattle.format.specs.Runs.{Description, short, direct, fixed, delta, patched}
use Rattle.format.specs.Rows.{as_i64, i64_rows}
use Rattle.format.specs.Parse.{Parsed, end, got, refused, parse}
use Rattle.format.specs.Promises.{run_of}
use Rattle.util.specs.Packed.{fields, Width}
use Rattle.format.specs.declared.Run.{Run}

-- ---- THE PROMISE

-- the rows of a direct run without the first `skip`: no rows if another kind of run stands there, or none
abbrev pub rows_from : Bool → ℕ → Description → List ℤ
rows_from signed skip (short count value) = []
rows_from signed skip (direct code k) = drop skip (i64_rows signed (direct code k))
rows_from signed skip (fixed rows first base) = []
rows_from signed skip (delta code first base k) = []
rows_from signed skip (patched code base pc gw k l) = []

abbrev pub part_rows : Bool → ℕ → Parsed Description → List ℤ
part_rows signed skip end = []
part_rows signed skip (got d rest) = rows_from signed skip d
part_rows signed skip (refused r) = []

-- the run is named if it is direct and has a row `skip`
abbrev pub part_of : ℕ → Description → Option Run
part_of skip (short count value) = None
part_of skip (direct code k) = pick (ltb skip (length k.values)) (Some (run_of (direct code k))) None
part_of skip (fixed rows first base) = None
part_of skip (delta code first base k) = None
part_of skip (patched code base pc gw k l) = None

abbrev pub part_answer : ℕ → Parsed Description → Option Run
part_answer skip end = None
part_answer skip (got d rest) = part_of skip d
part_answer skip (refused r) = None

-- as many of the rows as there are places go into the first of them; the others keep their content
abbrev pub laid_first : List ℤ → List ℤ → List ℤ
laid_first rows out = take (length out) rows ++ drop (length rows) out

pub record PartGives (skip : ℕ) (signed : Bool) (m : Parsed Description) (out out' : List ℤ) (r : Option Run) : Type 0 where
  pub answer : r ≡ part_answer skip m
  pub places : out' ≡ laid_first (part_rows signed skip m) out

abbrev pub DirectPartRead : List ℕ → ℕ → ℕ → Bool → List ℤ → List ℤ → Option Run → Type 0
DirectPartRead input at skip signed out out' r = PartGives skip signed (parse (drop at input)) out out' r

-- ---- n fields after the first `skip`, of the count fields of width w that s begins with

pub record PartThere (w count skip n : ℕ) (s : List ℕ) (out : List ℤ) : Type 0 where
  pub width : Width w
  pub few : count ≤ 512
  pub within : skip + n ≤ count
  pub places : n ≤ length out
  pub there : bytes_for (count * w) ≤ length s

abbrev pub PartPut : ℕ → ℕ → ℕ → ℕ → List ℕ → List ℤ → List ℤ → Type 0
PartPut w count skip n s out out' = out' ≡ map as_i64 (take n (drop skip (fields w count s))) ++ drop n out
