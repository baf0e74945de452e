-- Room for a run's rows. Assumes nothing.
use Rattle.std.specs.Prelude.{◌≡◌, ℕ, List}
use Rattle.format.specs.Parse.{parse, into}

-- a run has no more rows than there is room for
abbrev pub Enough : ℕ → List ℕ → Type 0
Enough n bs = into n (parse bs) ≡ parse bs
