-- The column that a byte stream stands for, from a place on: every run up to the first that is not whole, and why that one is not.
-- Assumes nothing.
use Rattle.std.specs.Prelude.{ℕ, zero, suc, List, [], ◌∷◌, length, drop}
use Rattle.format.specs.Parse.{Reason, cut_in, Parsed, end, got, refused}
use Rattle.format.specs.Booleans.{ByteRun, joined_bytes, byte_run}

-- several runs, and why no more follow
pub record Runs : Type 0 where
  pub runs : List ByteRun
  pub why : Reason

abbrev pub no_runs : Reason → Runs
no_runs r = record { runs = []; why = r }

abbrev pub run_then : ByteRun → Runs → Runs
run_then d rs = record { runs = d ∷ rs.runs; why = rs.why }

-- a run, and those that `after` finds in the bytes after it; or no run
abbrev pub scanned : (List ℕ → Runs) → Parsed ByteRun → Runs
scanned after end = no_runs (cut_in 6 [])
scanned after (got d s) = run_then d (after s)
scanned after (refused r) = no_runs r

-- at most `fuel` runs: every run takes a byte at least, so the length is fuel enough
unfoldable pub scan : ℕ → List ℕ → Runs
scan zero bs = no_runs (cut_in 6 bs)
scan (suc fuel) bs = scanned (scan fuel) (byte_run bs)

abbrev pub whole_runs : List ℕ → Runs
whole_runs bs = scan (length bs) bs

-- those from a byte of an input on
abbrev pub runs_at : List ℕ → ℕ → Runs
runs_at input at = whole_runs (drop at input)

-- the bytes that they stand for
unfoldable pub column : List ℕ → List ℕ
column bs = joined_bytes (whole_runs bs).runs
