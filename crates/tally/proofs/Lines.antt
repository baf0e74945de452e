-- A line is answered as the run reader answers its bytes, and refused with numbers below 15 alone. Assumes nothing.
use Rattle.std.proofs.Common.{◌≡◌, ℕ, ◌<◌, Bool, eqb, List, length, take, drop, ℤ, refl, arith, take_at, lt-ltb}
use Rattle.format.specs.Runs.{Description, row_count}
use Rattle.format.specs.Rows.{i64_rows}
use Rattle.format.specs.Answers.{answer_rows}
use Rattle.format.specs.Parse.{Reason, plain, cut, Parsed, end, got, refused, parse, into}
use Rattle.format.specs.Promises.{answer_of, run_places}
use Rattle.format.proofs.Rows.{i64-count, row-bounds}
use Rattle.format.proofs.Tests.{never}
use Rattle.promises.specs.Refusals.{Table, refusal-1, refusal-2, refusal-3, refusal-4, refusal-5, refusal-7, refusal-8, CutLine, in-value, in-base}
use Rattle.promises.specs.Refusals.{in-first-row, in-base-delta, in_rows, in-magnitudes, in-values, in_list, TableGives, by_number, by_field}
use Rattle.promises.proofs.Refusals.{refusals}
use Rattle.tally.specs.Totals.{number_of, refusal, line_of, answered}
use Rattle.tally.specs.Held.{line_with, reply_to}
use Rattle.tally.specs.Laws.{Listed, from-1, from-12, LinesRead}

table-listed : {bs : List ℕ} {n : ℕ} → Table 512 bs n → Listed n
table-listed (refusal-1 h) = from-1 1 (omega arith) (omega arith)
table-listed (refusal-2 h) = from-1 2 (omega arith) (omega arith)
table-listed (refusal-3 h) = from-1 3 (omega arith) (omega arith)
table-listed (refusal-4 h) = from-1 4 (omega arith) (omega arith)
table-listed (refusal-5 h) = from-1 5 (omega arith) (omega arith)
table-listed (refusal-7 h) = from-1 7 (omega arith) (omega arith)
table-listed (refusal-8 (d, rest, v, e, h)) = absurd (omega (arith, (row-bounds d v).1))

cut-listed : {bs : List ℕ} {n field : ℕ} → CutLine bs n field → Listed n
cut-listed (in-value h l) = from-1 6 (omega arith) (omega arith)
cut-listed (in-base h l) = from-1 6 (omega arith) (omega arith)
cut-listed (in-first-row h l) = from-12 12 (omega arith) (omega arith)
cut-listed (in-base-delta first rest h e v l) = from-12 12 (omega arith) (omega arith)
cut-listed (in_rows h l) = from-12 13 (omega arith) (omega arith)
cut-listed (in-magnitudes first base rest h e v w l) = from-12 13 (omega arith) (omega arith)
cut-listed (in-values h k l) = from-12 13 (omega arith) (omega arith)
cut-listed (in_list h k l) = from-12 14 (omega arith) (omega arith)

given-listed : {bs : List ℕ} {r : Reason} → TableGives 512 bs r → Listed (number_of r)
given-listed (by_number t) = table-listed t
given-listed (by_field l) = cut-listed l

listed_below : {n : ℕ} → Listed n → n < 15
listed_below (from-1 n h l) = omega arith
listed_below (from-12 n h l) = omega arith

-- by what reading gave; a refusal's number is listed
as_read : (signed : Bool) (at total : ℕ) (out : List ℤ) (m : Parsed Description) → ((r : Reason) → m ≡ refused r → Listed (number_of r))
    → line_with (reply_to (answer_of at total m)) (take (answer_rows (answer_of at total m)) (run_places signed out m)) ≡ line_of signed m
as_read signed at total out end h = refl
as_read signed at total out (got d rest) h = rw (take_at (i64_rows signed d) (drop (row_count d) out) (row_count d) (i64-count signed d))
as_read signed at total out (refused (plain n)) h = rw (lt-ltb n 15 (listed_below (h (plain n) refl)))
as_read signed at total out (refused (cut n left)) h = rw (lt-ltb n 15 (listed_below (h (cut n left) refl)))

refusal-listed : (signed : Bool) (m : Parsed Description) → ((r : Reason) → m ≡ refused r → Listed (number_of r)) → (n : ℕ) → line_of signed m ≡ refusal n
    → Listed n
refusal-listed signed end h n e = never (cc)
refusal-listed signed (got d rest) h n e = never (cc)
refusal-listed signed (refused r) h n e = let g : number_of r ≡ n = cc in rw g at (h r refl)

pub lines-read : LinesRead
unfolding answered
lines-read flag bytes at out h =
    let listed : (r : Reason) → into 512 (parse bytes) ≡ refused r → Listed (number_of r) = λ r e. given-listed ((refusals 512 bytes h r).0 e) in
    record {
      as-answered = as_read (eqb flag 1) at (length bytes) out (into 512 (parse bytes)) listed;
      listed = refusal-listed (eqb flag 1) (into 512 (parse bytes)) listed;
    }
