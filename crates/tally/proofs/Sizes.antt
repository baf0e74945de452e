-- The sum of at most 2^32 rows is at most 2^95 in size. Assumes nothing.
use Rattle.std.proofs.Common.{◌≡◌, ℕ, suc, ◌+◌, ◌-◌, ◌*◌, ◌^◌, ◌<◌, ◌≤◌, eqb, List, [], ◌∷◌, ◌++◌, map, length, ℤ, pos, negsuc, ◌+ℤ◌, nat_abs, arith, w64, SFits, le-ltb, lt-ltb}
use native.Mathlib.Decide.{dec_lt}
use lib.IntN.{sub_ℕ}
use Rattle.format.specs.Fields.{two64}
use Rattle.format.specs.Digits.{AllBelow}
use Rattle.format.specs.Runs.{Description}
use Rattle.format.specs.Rows.{rows_of, as_i64, i64_rows}
use Rattle.format.specs.Parse.{Parsed}
use Rattle.format.specs.Writing.{AllI64}
use Rattle.format.proofs.Patterns.{as-low, as_high}
use Rattle.format.proofs.Rows.{rows-below}
use Rattle.format.proofs.Streams.{Into, into-nothing, into-run, into-refusal, into-outcome}
use Rattle.tally.specs.Totals.{line_of, answered, rows_in, rows_over, sum_of, totals}
use Rattle.tally.specs.Laws.{Within, AllBytes}

-- a difference, by which of the two is the larger
pub sub_low : (a b : ℕ) → a < b → sub_ℕ a b ≡ negsuc (b - suc a)
sub_low a b h = rw (lt-ltb a b h)

pub sub-high : (a b : ℕ) → b ≤ a → sub_ℕ a b ≡ pos (a - b)
sub-high a b h = rw (le-ltb a b h)

sub-size : (a b : ℕ) → nat_abs (sub_ℕ a b) ≤ a + b
sub-size a b = by (dec_lt a b)
  where
    by : Dec (a < b) → nat_abs (sub_ℕ a b) ≤ a + b
    by (yes h) = rw (sub_low a b h) (omega arith)
    by (no h) = rw (sub-high a b (omega arith)) (omega arith)

pub sum-size : (y z : ℤ) → nat_abs (y +ℤ z) ≤ nat_abs y + nat_abs z
sum-size (pos a) (pos b) = omega arith
sum-size (pos a) (negsuc b) = sub-size a (suc b)
sum-size (negsuc a) (pos b) = omega (arith, sub-size b (suc a))
sum-size (negsuc a) (negsuc b) = omega arith

pub row-size : (z : ℤ) → SFits w64 z → nat_abs z ≤ 2 ^ 63
row-size (pos n) f = omega (arith, f.sfits)
row-size (negsuc n) f = omega (arith, f.sfits)

pub rows-size : (zs : List ℤ) → AllI64 zs → nat_abs (sum_of zs) ≤ length zs * 2 ^ 63
unfolding sum_of
rows-size [] h = omega arith
rows-size (z ∷ zs) h = omega (arith, sum-size z (sum_of zs), row-size z h.0, rows-size zs h.1)

-- the rows of a line are i64
rows_fit : (rs : List ℕ) → AllBelow two64 rs → AllI64 (map as_i64 rs)
rows_fit [] h = tt
rows_fit (b ∷ rs) h = (by (dec_lt b (2 ^ 63)), rows_fit rs h.1)
  where
    by : Dec (b < 2 ^ 63) → SFits w64 (as_i64 b)
    by (yes l) = rw (as-low b l) (record { sfits = l })
    by (no l) = rw (as_high b (omega arith)) (record { sfits = omega (arith, h.0) })

append-fit : (zs ys : List ℤ) → AllI64 zs → AllI64 ys → AllI64 (zs ++ ys)
append-fit [] ys h k = k
append-fit (z ∷ zs) ys h k = (h.0, append-fit zs ys h.1 k)

answer-fits : (frame : List ℕ) → AllBelow 256 frame → AllI64 (rows_in (answered frame))
unfolding answered i64_rows
answer-fits [] h = tt
answer-fits (flag ∷ bytes) h = go (into-outcome 512 bytes h.1)
  where
    go : {m : Parsed Description} → Into 512 bytes m → AllI64 (rows_in (line_of (eqb flag 1) m))
    go (into-nothing e) = tt
    go (into-run {d} t l) = rows_fit (rows_of (eqb flag 1) d) (rows-below (eqb flag 1) d t.ok)
    go (into-refusal e) = tt

pub all_fit : (frames : List (List ℕ)) → AllBytes frames → AllI64 (rows_over (map answered frames))
unfolding rows_over
all_fit [] h = tt
all_fit (f ∷ fs) h = append-fit (rows_in (answered f)) (rows_over (map answered fs)) (answer-fits f h.0) (all_fit fs h.1)

pub bound : (frames : List (List ℕ)) → AllBytes frames → Within (map answered frames) → nat_abs (totals (map answered frames)).sum ≤ 2 ^ 95
unfolding totals
bound frames h w = omega (arith, rows-size (rows_over (map answered frames)) (all_fit frames h), w.few-rows)
