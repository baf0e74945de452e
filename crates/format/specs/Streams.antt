-- A stream of runs, read into n places: the runs one after another, until the bytes end or a run is refused.
-- Assumes nothing.
use Rattle.std.specs.Prelude.{ℕ, zero, suc, ◌+◌, ◌-◌, ◌*◌, Bool, List, [], ◌∷◌, ◌++◌, length, ℤ}
use Rattle.format.specs.Runs.{Description, row_count}
use Rattle.format.specs.Rows.{i64_rows}
use Rattle.format.specs.Parse.{Reason, plain, Parsed, end, got, refused, parse, into}

-- what a stream holds: all its runs; or the runs before the first refusal, the refusal, and the bytes from the refused run on
pub data Reading : Type 0 where
  whole : List Description → Reading
  broken : List Description → Reason → List ℕ → Reading

abbrev pub after : Description → Reading → Reading
after d (whole ds) = whole (d ∷ ds)
after d (broken ds r bs) = broken (d ∷ ds) r bs

-- by what reading a run of the bytes bs gave: the run, and those after it, in the places that are left; or its refusal
abbrev pub next : (ℕ → List ℕ → Reading) → ℕ → List ℕ → Parsed Description → Reading
next go n bs end = whole []
next go n bs (got d rest) = after d (go (n - row_count d) rest)
next go n bs (refused r) = broken [] r bs

-- At most `fuel` runs: every run takes at least one byte, so the input's length is fuel enough. Bytes left without fuel, which never
-- happens, are refused.
unfoldable pub runs_from : ℕ → ℕ → List ℕ → Reading
runs_from zero n [] = whole []
runs_from zero n (b ∷ bs) = broken [] (plain 1) (b ∷ bs)
runs_from (suc fuel) n bs = next (λ m rest. runs_from fuel m rest) n bs (into n (parse bs))

unfoldable pub read_all : ℕ → List ℕ → Reading
read_all n bs = runs_from (length bs) n bs

-- with room enough: a run takes at least one byte, and holds at most 512 rows
unfoldable pub stream : List ℕ → Reading
stream bs = read_all (512 * length bs) bs

-- the runs that were read, their rows in all, and the rows joined
abbrev pub runs_of : Reading → List Description
runs_of (whole ds) = ds
runs_of (broken ds r bs) = ds

unfoldable pub total_rows : List Description → ℕ
total_rows [] = 0
total_rows (d ∷ ds) = row_count d + total_rows ds

unfoldable pub joined_rows : Bool → List Description → List ℤ
joined_rows signed [] = []
joined_rows signed (d ∷ ds) = i64_rows signed d ++ joined_rows signed ds
