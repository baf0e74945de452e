-- A refusal by words: its number, and the byte where the field begins that the input ends in, 0 where it ends in none. Assumes nothing.
use Rattle.std.specs.Prelude.{ℕ, eqb}
use Rattle.format.specs.Fields.{pick}
use Rattle.format.specs.Answers.{Answer, refused_at, cut_at}

-- the answer to the run at `at`
abbrev pub refused_by : ℕ → ℕ → ℕ → Answer
refused_by at number field = pick (eqb field 0) (refused_at number at) (cut_at number at field)
