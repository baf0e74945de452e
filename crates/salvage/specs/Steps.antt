-- For the functions of the code: a group by its number, and the bytes of fill runs by the number that stands in them.
-- Assumes nothing.
use Rattle.std.specs.Prelude.{ℕ, zero, suc, ◌-◌, ◌/◌, ◌%◌, Bool, not, ◌||◌, List, [], ◌∷◌, ◌++◌, length, take, drop, get_or, ltb, eqb, ℤ}
use Rattle.format.specs.Fields.{pick, shortest}
use Rattle.format.specs.Runs.{head}
use Rattle.salvage.specs.Salvage.{Group, groups, salvaged, report}

-- ---- group i

-- it ends at the next start, or at the end
abbrev pub stop_of : ℕ → List ℕ → ℕ → ℕ
stop_of end starts i = get_or starts (suc i) end

abbrev pub bytes_of : List ℕ → List ℕ → ℕ → List ℕ
bytes_of bs starts i = take (stop_of (length bs) starts i - get_or starts i 0) (drop (get_or starts i 0) bs)

abbrev pub group : List ℕ → ℕ → Group
group bytes rows = record { bytes = bytes; rows = rows }

-- ---- fixed delta runs of the first row that is stored so, delta 0

unfoldable pub run_of : ℕ → ℕ → List ℕ
run_of first n = head 3 0 n ++ (shortest first ++ (0 ∷ []))

-- q of 512 rows, and then one of the n that are left, or none
unfoldable pub runs_for : ℕ → ℕ → ℕ → List ℕ
runs_for first zero n = pick (eqb n 0) [] (run_of first n)
runs_for first (suc q) n = run_of first 512 ++ runs_for first q n

unfoldable pub filled : ℕ → ℕ → List ℕ
filled first n = runs_for first (n / 512) (n % 512)

-- the group's own bytes, or runs of its rows
abbrev pub made : Bool → List ℕ → ℕ → ℕ → List ℕ
made keep bytes first n = pick keep bytes (filled first n)

-- ---- both outputs have room
unfoldable pub room_for : Bool → ℤ → List ℕ → List ℕ → List ℕ → ℕ → ℕ → Bool
room_for signed fill bs starts counts places lines =
    not (ltb places (length (salvaged signed fill (groups bs starts counts))) || ltb lines (length (report 0 (groups bs starts counts))))
