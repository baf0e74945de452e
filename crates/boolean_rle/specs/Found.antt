-- What the reader's own functions answer, by what reading at a place gives. Assumes nothing.
use Rattle.std.specs.Prelude.{◌≡◌, ℕ, ◌+◌, ◌-◌, ◌*◌, ◌<◌, ◌≤◌, List, [], ◌++◌, length, take, drop, leb, Result, Ok, Err}
use Rattle.format.specs.Fields.{pick}
use Rattle.format.specs.Parse.{Reason, plain, cut, Parsed, end, got, refused}
use Rattle.format.specs.Booleans.{ByteRun, run_layout, run_bytes, byte_count, joined_runs, joined_bytes, bits, byte_run}
use Rattle.boolean_rle.specs.declared.ByteRun as code
use Rattle.boolean_rle.specs.declared.Cut.{Cut}
use Rattle.boolean_rle.specs.declared.positions.BytePosition.{BytePosition}
use Rattle.boolean_rle.specs.declared.positions.FlagPosition.{FlagPosition}
use Rattle.boolean_rle.specs.Column.{runs_at, column}
use Rattle.boolean_rle.specs.Positions.{skipped, past, past_flags, Plain}

-- where an input of `total` bytes is cut: the refusal's number, and the byte from which on `left` are left (byte runs have no other refusal)
abbrev pub number_of : Reason → ℕ
number_of (plain n) = n
number_of (cut n left) = n

abbrev pub field_in : ℕ → Reason → ℕ
field_in total (plain n) = total
field_in total (cut n left) = total - left

abbrev pub cut_of : ℕ → Reason → Cut
cut_of total r = record { number = number_of r; field = field_in total r }

-- a run: the bytes of its layout, and how many bytes it stands for
abbrev pub Found : Type 0
Found = Result code.ByteRun Cut

abbrev pub found_in : ℕ → Parsed ByteRun → Found
found_in total end = Err (record { number = 6; field = total })
found_in total (got d rest) = Ok (record { size = length (run_layout d); count = byte_count d })
found_in total (refused r) = Err (cut_of total r)

-- the bytes that it stands for
abbrev pub run_bytes_in : Parsed ByteRun → List ℕ
run_bytes_in end = []
run_bytes_in (got d rest) = run_bytes d
run_bytes_in (refused r) = []

-- the two at a byte of an input
abbrev pub found_at : List ℕ → ℕ → Found
found_at input at = found_in (length input) (byte_run (drop at input))

abbrev pub bytes_at : List ℕ → ℕ → List ℕ
bytes_at input at = run_bytes_in (byte_run (drop at input))

-- several runs: the bytes of their layouts
abbrev pub Span : Type 0
Span = Result ℕ Cut

abbrev pub span_of : ℕ → Parsed (List ByteRun) → Span
span_of total end = Err (record { number = 6; field = total })
span_of total (got ds rest) = Ok (length (joined_runs ds))
span_of total (refused r) = Err (cut_of total r)

-- ys, as far as they are wanted, stand in the places from k up to k': whatever list all has ys at k, a list that begins as all does up to k
-- and goes on as d does, begins as all does up to k' and goes on as d does
abbrev pub Wrote : ℕ → ℕ → List ℕ → List ℕ → List ℕ → Type 0
Wrote k k' ys out out' =
    (all d more : List ℕ) → drop k all ≡ ys ++ more → out ≡ take k all ++ drop k d → out' ≡ take k' all ++ drop k' d

-- ---- positions: the one after m bytes, or after k flags, from the byte `at` on; or where the input is cut

abbrev pub byte_end : List ℕ → ℕ → ℕ → Result BytePosition Cut
byte_end input at m = pick (leb m (length (joined_bytes (runs_at input at).runs))) (Ok (past at m (runs_at input at).runs))
    (Err (cut_of (length input) (runs_at input at).why))

abbrev pub flag_end : List ℕ → ℕ → ℕ → Result FlagPosition Cut
flag_end input at k = pick (leb k (8 * length (joined_bytes (runs_at input at).runs))) (Ok (past_flags at k (runs_at input at).runs))
    (Err (cut_of (length input) (runs_at input at).why))

-- the column's values after those that a position skips
abbrev pub bytes_ahead : List ℕ → BytePosition → List ℕ
bytes_ahead input p = drop p.bytes.bytes (column (drop p.run.bytes input))

abbrev pub flags_ahead : List ℕ → FlagPosition → List ℕ
flags_ahead input p = drop (skipped p) (bits (column (drop p.run.bytes input)))

-- a plain position with n flags after it
pub record Ready (input : List ℕ) (p : FlagPosition) (n : ℕ) : Type 0 where
  pub in_byte : p.bits < 8
  pub in_run : Plain p.bytes.bytes (runs_at input p.run.bytes).runs
  pub there : skipped p + n ≤ 8 * length (column (drop p.run.bytes input))
