-- How bytes are cut into byte runs. A stretch of three or more equal bytes becomes repeats of at most 130, everything else literal runs of
-- at most 128. Two rules of a byte more or less make it the shortest: of exactly 132 equal bytes the first repeat has 129, which leaves
-- three for another; and a byte that repeats of 130 would leave alone goes into the literals before them, if those have room, and else
-- into the literals after them. Assumes nothing.
use Rattle.std.specs.Prelude.{ℕ, zero, suc, ◌+◌, ◌%◌, min, Bool, List, [], ◌∷◌, length, take, drop, leb, eqb}
use Rattle.format.specs.Fields.{pick}
use Rattle.format.specs.Booleans.{ByteRun, repeat, literals, byte_count, joined_runs}

-- how many of the bytes, from the first on, are b
unfoldable pub same_as : ℕ → List ℕ → ℕ
same_as b [] = 0
same_as b (c ∷ cs) = pick (eqb c b) (suc (same_as b cs)) 0

-- how many equal bytes the bytes begin with
unfoldable pub stretch : List ℕ → ℕ
stretch [] = 0
stretch (b ∷ bs) = suc (same_as b bs)

-- they are enough for a repeat
abbrev pub repeats : List ℕ → Bool
repeats bs = leb 3 (stretch bs)

-- how many bytes stand before the first stretch that is enough for a repeat
unfoldable pub before : List ℕ → ℕ
before [] = 0
before (b ∷ bs) = pick (repeats (b ∷ bs)) 0 (suc (before bs))

-- how many of n equal bytes the first repeat has
unfoldable pub repeated : ℕ → ℕ
repeated n = pick (eqb n 132) 129 (min 130 n)

-- the byte that repeats of 130 leave alone: of n equal bytes one or none
unfoldable pub alone : ℕ → ℕ
alone n = pick (eqb (n % 130) 1) 1 0

-- how many bytes go into literals: those before the next stretch, and the byte of it that would be left alone
unfoldable pub in_literals : List ℕ → ℕ
in_literals bs = before bs + alone (stretch (drop (before bs) bs))

-- the run that some bytes begin with
unfoldable pub next_run : List ℕ → ByteRun
next_run [] = literals []
next_run (b ∷ bs) =
    pick (repeats (b ∷ bs))
    (repeat (repeated (stretch (b ∷ bs))) b)
    (literals (take (min 128 (in_literals (b ∷ bs))) (b ∷ bs)))

-- the runs, at most `fuel` of them: every run takes a byte at least, so the length is fuel enough
unfoldable pub runs_in : ℕ → List ℕ → List ByteRun
runs_in zero bs = []
runs_in (suc fuel) [] = []
runs_in (suc fuel) (b ∷ bs) = next_run (b ∷ bs) ∷ runs_in fuel (drop (byte_count (next_run (b ∷ bs))) (b ∷ bs))

unfoldable pub runs_of : List ℕ → List ByteRun
runs_of bs = runs_in (length bs) bs

-- what is written of some bytes
unfoldable pub written : List ℕ → List ℕ
written bs = joined_runs (runs_of bs)
