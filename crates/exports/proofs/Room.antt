-- Enough rows for a run: ten for a short one, 512 for any. Where the rows are enough, only the output's places count.
-- Assumes nothing.
use mathlib.Core.Path.{◌≡◌, refl, ap}
use Prim.Native.Nat.{ℕ, ◌%◌, ◌<◌, ◌≤◌, min}
use native.Mathlib.Omega.{arith}
use native.Mathlib.Decide.{dec_lt}
use mathlib.Core.List.{List}
use lib.ListN.{get_or}
use borrow.Author.Tests.{lt-ltb, le-ltb}
use Rattle.format.specs.Digits.{AllBelow}
use Rattle.format.specs.Runs.{Description, short, direct, fixed, delta, patched, row_count, Valid, layout}
use Rattle.format.specs.Parse.{Parsed, end, got, refused, into}
use Rattle.format.proofs.Rows.{row-bounds}
use Rattle.format.proofs.Runs.{Outcome, nothing, run, refusal, outcome}
use Rattle.format.proofs.Streams.{into-end, into-refused, into-got}
use Rattle.format.proofs.Posts.{Took}
use Rattle.exports.specs.Room.{Enough}

-- the two bytes that a run other than a short repeat begins with: nine bits of them are rows-1
ten-rows : (bs : List ℕ) (d : Description) (rest : List ℕ) → Took bs layout Valid d rest → get_or bs 0 0 % 2 ≡ 0 → get_or bs 1 0 < 10 → row_count d ≤ 10
unfolding layout
ten-rows bs (short count value) rest t e h = t.ok.many
ten-rows bs (direct code k) rest t e h = omega (arith, t.ok.head, ap (λ (l : List ℕ). get_or l 0 0) t.split, ap (λ (l : List ℕ). get_or l 1 0) t.split)
ten-rows bs (fixed rows first base) rest t e h = omega (arith, t.ok.head, ap (λ (l : List ℕ). get_or l 0 0) t.split, ap (λ (l : List ℕ). get_or l 1 0) t.split)
ten-rows bs (delta code first base k) rest t e h = omega (arith, t.ok.head, ap (λ (l : List ℕ). get_or l 0 0) t.split, ap (λ (l : List ℕ). get_or l 1 0) t.split)
ten-rows bs (patched code base pc gw k l) rest t e h = omega (arith, t.ok.head, ap (λ (l : List ℕ). get_or l 0 0) t.split, ap (λ (l : List ℕ). get_or l 1 0) t.split)

-- the reader's own reason
enough-by : (n : ℕ) (bs : List ℕ) → AllBelow 256 bs → ((d : Description) (rest : List ℕ) → Took bs layout Valid d rest → row_count d ≤ n) → Enough n bs
enough-by n bs h f = by (outcome bs h)
  where
    by : {m : Parsed Description} → Outcome bs m → into n m ≡ m
    by (nothing z) = into-end n
    by (run {d} {rest} t) = into-got n d rest (f d rest t)
    by (refusal {r} z) = into-refused n r

pub enough-all : (bs : List ℕ) → AllBelow 256 bs → Enough 512 bs
enough-all bs h = enough-by 512 bs h λ d rest t. (row-bounds d t.ok).1

pub enough-ten : (bs : List ℕ) → AllBelow 256 bs → get_or bs 0 0 % 2 ≡ 0 → get_or bs 1 0 < 10 → Enough 10 bs
enough-ten bs h e l = enough-by 10 bs h λ d rest t. ten-rows bs d rest t e l

-- of two limits of which one is no limit, the other counts
pub least-room : (m n : ℕ) (p : Parsed Description) → into n p ≡ p → into (min m n) p ≡ into m p
unfolding into
least-room m n end e = refl
least-room m n (refused r) e = refl
least-room m n (got d rest) e = by (dec_lt n (row_count d)) (dec_lt m (row_count d))
  where
    by : Dec (n < row_count d) → Dec (m < row_count d) → into (min m n) (got d rest) ≡ into m (got d rest)
    by (yes h) l =
        let z : ◌≡◌ {A = ℕ} 0 1 = cc (lt-ltb n (row_count d) h) in
        absurd (omega arith)
    by (no h) (yes l) = rw (lt-ltb m (row_count d) l, lt-ltb (min m n) (row_count d) (omega arith))
    by (no h) (no l) = rw (le-ltb m (row_count d) (omega arith), le-ltb (min m n) (row_count d) (omega arith))
