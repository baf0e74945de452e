-- Room for the rows of a run. Assumes nothing.
use Rattle.std.specs.Prelude.{ℕ}

-- a run has no more rows
abbrev pub most_rows : ℕ
most_rows = 512
