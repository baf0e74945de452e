-- By induction over the runs, a row's position begins the runs that are left: so what is read from the position that a batch leaves is what
-- the batch left. Assumes nothing.
use mathlib.Core.Path.{◌≡◌, refl, sym, ap, ◌∙◌}
use Prim.Native.Nat.{ℕ, ◌+◌, ◌-◌, ◌<◌, ◌≤◌, min}
use native.Mathlib.Omega.{arith}
use native.Mathlib.Decide.{dec_lt, dec_le}
use native.Mathlib.Nat.{min-eq_left}
use mathlib.Core.Bool.{Bool}
use mathlib.Core.List.{List, [], ◌∷◌}
use lib.ListN.{length, drop, length-append, drop_of_length-le}
use lib.Seq.{drop-nil, drop-drop}
use lib.IntN.{ℤ}
use borrow.Author.Tests.{le-ltb}
use Rattle.format.specs.Digits.{AllBelow}
use Rattle.format.specs.Runs.{Description, row_count, layout, joined}
use Rattle.format.specs.Streams.{Reading, whole, broken, after, stream, runs_of, total_rows, joined_rows}
use Rattle.format.proofs.Rows.{joined-count}
use Rattle.batches.specs.Batches.{Position, position_of, rows_left, count_left, empty_of, reading_at}
use Rattle.batches.specs.BatchTheorems.{Plain}
use Rattle.index.proofs.Entries.{total-cons}
use Rattle.batches.proofs.RowPositions.{in-first, past_first, no_run}
use Rattle.batches.proofs.BatchRuns.{rows-skip}
use Rattle.batches.proofs.RunAtByte.{read-on}

-- a reading with other runs
abbrev with : Reading → List Description → Reading
with (whole cs) ds = whole ds
with (broken cs r rest) ds = broken ds r rest

with-cons : (m : Reading) (d : Description) (ds : List Description) → with m (d ∷ ds) ≡ after d (with m ds)
with-cons (whole cs) d ds = refl
with-cons (broken cs r rest) d ds = refl

with-runs : (m : Reading) (ds : List Description) → runs_of (with m ds) ≡ ds
with-runs (whole cs) ds = refl
with-runs (broken cs r rest) ds = refl

with-own : (m : Reading) → with m (runs_of m) ≡ m
with-own (whole ds) = refl
with-own (broken ds r rest) = refl

pub joined-long : (d : Description) (ds : List Description) → length (joined (d ∷ ds)) ≡ length (layout d) + length (joined ds)
unfolding joined
joined-long d ds = length-append (layout d) (joined ds)

pub no-total : total_rows [] ≡ 0
unfolding total_rows
no-total = refl

pub no_bytes : length (joined []) ≡ 0
unfolding joined
no_bytes = refl

no_rows : (signed : Bool) (k : ℕ) → drop k (joined_rows signed []) ≡ []
unfolding joined_rows
no_rows signed k = drop-nil k

module _ (bs : List ℕ) (h : AllBelow 256 bs) (signed : Bool) (m : Reading) where
  -- row k of the runs ds from a byte on stands at q, at the beginning of the runs that are left
  record Restart (at k : ℕ) (ds : List Description) (q : Position) : Type 0 where
    runs-left : List Description
    read : stream (drop q.run bs) ≡ with m runs-left
    rows : drop q.skip (joined_rows signed runs-left) ≡ drop k (joined_rows signed ds)
    left : q.skip + (total_rows ds - k) ≡ total_rows runs-left
    positions : (j : ℕ) → position_of q.run (q.skip + j) runs-left ≡ position_of at (k + j) ds
    bytes : q.run + length (joined runs-left) ≡ at + length (joined ds)
    plain : Plain q.skip runs-left

  restart : (ds : List Description) (at k : ℕ) → k ≤ total_rows ds → stream (drop at bs) ≡ with m ds → Restart at k ds (position_of at k ds)
  restart [] at k l e = rw (no_run at k) (record {
    runs-left = [];
    read = e;
    rows = no_rows signed 0 ∙ sym (no_rows signed k);
    left = omega (arith, l, no-total);
    positions = λ j. no_run at (0 + j) ∙ sym (no_run at (k + j));
    bytes = refl;
    plain = refl;
  })
  restart (d ∷ ds) at k l e = go (dec_lt k (row_count d)) (restart ds (at + length (layout d)) (k - row_count d))
    where
      later : row_count d ≤ k → {q : Position} → Restart (at + length (layout d)) (k - row_count d) ds q → Restart at k (d ∷ ds) q
      later g w = record {
        runs-left = w.runs-left;
        read = w.read;
        rows = w.rows ∙ sym (rows-skip signed 0 at k d g ds);
        left = omega (arith, w.left, total-cons d ds, g);
        positions = λ j.
            let f : k - row_count d + j ≡ k + j - row_count d = omega arith in
            w.positions j ∙ ap (λ (x : ℕ). position_of (at + length (layout d)) x ds) f ∙ sym (past_first at (k + j) d ds (omega arith));
        bytes = w.bytes ∙ omega (arith, joined-long d ds);
        plain = w.plain;
      }

      go : Dec (k < row_count d)
          → (k - row_count d ≤ total_rows ds → stream (drop (at + length (layout d)) bs) ≡ with m ds
          → Restart (at + length (layout d)) (k - row_count d) ds (position_of (at + length (layout d)) (k - row_count d) ds))
          → Restart at k (d ∷ ds) (position_of at k (d ∷ ds))
      go (yes g) ih = rw (in-first at k d ds g) (record {
        runs-left = d ∷ ds;
        read = e;
        rows = refl;
        left = omega (arith, l);
        positions = λ j. refl;
        bytes = refl;
        plain = g;
      })
      go (no g) ih =
          rw (past_first at k d ds (omega arith))
          (later (omega arith) (ih (omega (arith, l, total-cons d ds)) (read-on bs at h d (with m ds) (e ∙ with-cons m d ds))))

-- ---- the position that a batch leaves

module _ (bs : List ℕ) (h : AllBelow 256 bs) (signed : Bool) (p : Position) (n : ℕ) where
  abbrev m : Reading
  m = reading_at bs p

  abbrev count : ℕ
  count = min n (count_left p m)

  abbrev q : Position
  q = position_of p.run (p.skip + count) (runs_of m)

  pub record Onward : Type 0 where
    pub rows : rows_left signed q (reading_at bs q) ≡ drop n (rows_left signed p m)
    pub within : q.skip ≤ total_rows (runs_of (reading_at bs q))
    pub left : count_left q (reading_at bs q) ≡ count_left p m - n
    pub positions : (j : ℕ)
        → position_of q.run (q.skip + j) (runs_of (reading_at bs q)) ≡ position_of p.run (p.skip + count + j) (runs_of m)
    pub empty : empty_of q (reading_at bs q) ≡ empty_of p m
    pub plain : Plain q.skip (runs_of (reading_at bs q))

  -- dropping more than there are is dropping all
  drop-count : (l : List ℤ) → drop (min n (length l - p.skip)) (drop p.skip l) ≡ drop n (drop p.skip l)
  drop-count l = go (dec_le n (length l - p.skip))
    where
      go : Dec (n ≤ length l - p.skip) → drop (min n (length l - p.skip)) (drop p.skip l) ≡ drop n (drop p.skip l)
      go (yes a) = ap (λ (k : ℕ). drop k (drop p.skip l)) (min-eq_left a)
      go (no a) =
          drop-drop (min n (length l - p.skip)) p.skip l
          ∙ drop_of_length-le l {i = p.skip + min n (length l - p.skip)} (omega arith)
          ∙ sym (drop-drop n p.skip l ∙ drop_of_length-le l {i = p.skip + n} (omega arith))

  empty-same : (x : Reading) (c d : Position) (cs ds : List Description) → c.skip ≤ total_rows cs → d.skip ≤ total_rows ds
      → c.run + length (joined cs) ≡ d.run + length (joined ds) → empty_of c (with x cs) ≡ empty_of d (with x ds)
  empty-same (whole xs) c d cs ds a b e = rw (le-ltb (total_rows cs) c.skip a, le-ltb (total_rows ds) d.skip b)
  empty-same (broken xs r rest) c d cs ds a b e = rw e

  pub onward : p.skip ≤ total_rows (runs_of m) → Onward
  onward l = go (restart bs h signed m (runs_of m) p.run (p.skip + count) (omega arith) (sym (with-own m)))
    where
      go : Restart bs h signed m p.run (p.skip + count) (runs_of m) q → Onward
      go w =
          let e : runs_of (reading_at bs q) ≡ w.runs-left = ap runs_of w.read ∙ with-runs m w.runs-left in
          let b : q.skip ≤ total_rows w.runs-left = omega (arith, w.left) in
          record {
            rows =
                ap (λ (ds : List Description). drop q.skip (joined_rows signed ds)) e ∙ w.rows
                ∙ sym (drop-drop count p.skip (joined_rows signed (runs_of m)))
                ∙ ap (λ (k : ℕ). drop (min n (k - p.skip)) (drop p.skip (joined_rows signed (runs_of m))))
                (sym (joined-count signed (runs_of m)))
                ∙ drop-count (joined_rows signed (runs_of m));
            within = rw e b;
            left = rw e (omega (arith, w.left));
            positions = λ j. ap (position_of q.run (q.skip + j)) e ∙ w.positions j;
            empty = ap (empty_of q) w.read ∙ empty-same m q p w.runs-left (runs_of m) b l w.bytes ∙ ap (empty_of p) (with-own m);
            plain = rw e w.plain;
          }
