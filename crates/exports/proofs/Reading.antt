-- What the run reader gives in the first of the rows, as `orc_read_run`'s number and bytes. Assumes nothing.
use mathlib.Core.Path.{◌≡◌, refl}
use Prim.Native.Nat.{ℕ, ◌*◌, ◌≤◌, min}
use native.Mathlib.Nat.{sub-zero}
use native.Mathlib.Omega.{arith}
use mathlib.Core.Bool.{Bool}
use mathlib.Core.List.{List, [], ◌∷◌, ◌++◌, append_assoc}
use lib.ListN.{length, take, drop}
use lib.Seq.{take_at}
use lib.IntN.{ℤ}
use Rattle.format.specs.Digits.{AllBelow}
use Rattle.format.specs.Runs.{Description, row_count}
use Rattle.format.specs.Rows.{i64_rows}
use Rattle.format.specs.Parse.{Parsed, parse, into}
use Rattle.format.specs.Answers.{Answer, answer_rows, answer_bytes}
use Rattle.format.specs.Promises.{answer_of, run_places, RunRead}
use Rattle.exports.specs.RowBytes.{row_bytes, bytes_of, places_in, LoadedAs}
use Rattle.format.proofs.Rows.{row-bounds, byte-bounds, i64-count}
use Rattle.format.proofs.Runs.{parse-empty}
use Rattle.format.proofs.Streams.{into-end, Into, into-nothing, into-run, into-refusal, into-outcome}
use Rattle.exports.proofs.Room.{least-room}
use Rattle.exports.specs.Room.{Enough}

-- rows' begins with the run's rows, if there is one
pub record Reads (input : List ℕ) (signed : Bool) (out : List ℕ) (rows' : List ℤ) (k : ℕ) (r : Answer) : Type 0 where
  pub answer : r ≡ answer_of 0 (length input) (into (places_in out) (parse input))
  pub fits : answer_rows r ≤ k
  pub few : answer_rows r ≤ 512
  pub short : answer_bytes r ≤ 4356
  pub bytes : row_bytes (take (answer_rows r) rows') ++ drop (8 * answer_rows r) out ≡ bytes_of signed out (into (places_in out) (parse input))

module _ (input : List ℕ) (signed : Bool) (out : List ℕ) (rows part part' : List ℤ) (at k : ℕ) (r : Answer) where
  pub reads : AllBelow 256 input → Enough (length rows) input → k ≡ min (places_in out) (length rows) → length part ≡ k → at ≡ 0
      → RunRead input at signed part part' r → (rest : List ℤ) → Reads input signed out (part' ++ rest) k r
  unfolding row_bytes
  reads b e m l z g rest =
      let n : into k (parse input) ≡ into (places_in out) (parse input) = rw m (least-room (places_in out) (length rows) (parse input) e) in
      by (into k (parse input)) n (into-outcome k input b) (rw (l, z, sub-zero) at g.answer) (rw (l, z) at g.places)
    where
      -- nothing was read: no row, no byte, and the output as it was
      none : (x : Parsed Description) → x ≡ into (places_in out) (parse input) → r ≡ answer_of 0 (length input) x → answer_rows (answer_of 0 (length input) x) ≡ 0 → answer_bytes (answer_of 0 (length input) x) ≡ 0
          → out ≡ bytes_of signed out x → Reads input signed out (part' ++ rest) k r
      none x n a c d o = record { answer = rw (← n) a; fits = rw (a, c) (omega arith); few = rw (a, c) (omega arith); short = rw (a, d) (omega arith); bytes = rw (a, c, ← n) o }

      by : (x : Parsed Description) → x ≡ into (places_in out) (parse input) → Into k input x → r ≡ answer_of 0 (length input) x → part' ≡ run_places signed part x
          → Reads input signed out (part' ++ rest) k r
      by x n (into-nothing _) a p = none x n a refl refl refl
      by x n (into-refusal _) a p = none x n a refl refl refl
      by x n (into-run {d} t f) a p = record {
        answer = rw (← n) a;
        fits = rw a f;
        few = rw a (row-bounds d t.ok).1;
        short = rw a (byte-bounds d t.ok);
        bytes = rw (a, ← n, p, append_assoc, take_at (i64_rows signed d) (drop (row_count d) part ++ rest) (row_count d) (i64-count signed d));
      }

-- empty input
pub loaded-end : (input : List ℕ) (signed : Bool) (out : List ℕ) → length input ≡ 0 → LoadedAs input signed out out 0
loaded-end [] signed out e = record { number = rw (parse-empty, into-end (places_in out)); bytes = rw (parse-empty, into-end (places_in out)) }
loaded-end (b ∷ input) signed out e = absurd (omega arith)
