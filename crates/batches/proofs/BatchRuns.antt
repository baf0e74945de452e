-- A batch by the run that the stream begins with: a run that is skipped changes none of it, and of one that holds the row it takes a part,
-- or all and then the batch of the stream after it. Assumes nothing.
use mathlib.Core.Path.{◌≡◌, ap, ◌∙◌}
use Prim.Native.Nat.{ℕ, ◌+◌, ◌-◌, ◌<◌, ◌≤◌, min}
use native.Mathlib.Omega.{arith}
use native.Mathlib.Decide.{dec_le}
use native.Mathlib.Nat.{min-eq_left, sub-zero, zero-add}
use mathlib.Core.Bool.{Bool, false}
use mathlib.Core.List.{List, [], ◌∷◌, ◌++◌, append-nil}
use lib.ListN.{length, take, drop, length-append}
use lib.Seq.{drop-append-le, take-append-le, take-nil}
use lib.Dec.{leb, ltb}
use borrow.Author.Tests.{le-leb, lt-leb, le-ltb, lt-ltb}
use Rattle.format.specs.Fields.{pick}
use Rattle.format.specs.Runs.{Description, row_count, layout, joined}
use Rattle.format.specs.Rows.{i64_rows}
use Rattle.format.specs.Parse.{Reason}
use Rattle.format.specs.Streams.{Reading, whole, broken, after, stream, runs_of, total_rows, joined_rows}
use Rattle.format.proofs.Rows.{i64-count}
use Rattle.batches.specs.Batches.{gives, position_of, first_rows, empty_of, batch_of, batch}
use Rattle.index.proofs.Entries.{total-cons}
use Rattle.batches.proofs.RowPositions.{position, before, bare, runs_after, drop_past, take_past, in-first, past_first}
use Rattle.batches.proofs.RowPositions.{rows-cons, rest-long}

min-plus : (l n m : ℕ) → min (l + n) (l + m) ≡ l + min n m
min-plus l n m = omega arith

module _ (signed : Bool) (n at skip : ℕ) (d : Description) where
  abbrev next-byte : ℕ
  next-byte = at + length (layout d)

  -- ---- a run that is skipped
  module _ (h : row_count d ≤ skip) where
    pub rows-skip : (ds : List Description) → drop skip (joined_rows signed (d ∷ ds)) ≡ drop (skip - row_count d) (joined_rows signed ds)
    rows-skip ds = rw (rows-cons signed d ds, ← (i64-count signed d))
        (drop_past (i64_rows signed d) (joined_rows signed ds) skip (omega (arith, i64-count signed d)))

    first-skip : (m : Reading)
        → first_rows signed n (position at skip) (after d m) ≡ first_rows signed n (position next-byte (skip - row_count d)) m
    first-skip m =
        let ds = runs_of m in
        let e : total_rows (d ∷ ds) - skip ≡ total_rows ds - (skip - row_count d) = omega (arith, total-cons d ds) in
        let f : skip + min n (total_rows ds - (skip - row_count d)) - row_count d ≡ skip - row_count d + min n
        (total_rows ds - (skip - row_count d)) = omega arith in
        rw (runs_after d m, rows-skip ds, e, past_first at (skip + min n (total_rows ds - (skip - row_count d))) d ds (omega arith), f)

    empty-skip : (m : Reading) → empty_of (position at skip) (after d m) ≡ empty_of (position next-byte (skip - row_count d)) m
    unfolding total_rows joined
    empty-skip (whole ds) = rw (shorter (total_rows ds))
      where
        shorter : (t : ℕ) → ltb (row_count d + t) skip ≡ ltb t (skip - row_count d)
        shorter t = go (dec_le skip (row_count d + t))
          where
            go : Dec (skip ≤ row_count d + t) → ltb (row_count d + t) skip ≡ ltb t (skip - row_count d)
            go (yes l) = rw (le-ltb (row_count d + t) skip l, le-ltb t (skip - row_count d) (omega arith))
            go (no l) = rw (lt-ltb (row_count d + t) skip (omega arith), lt-ltb t (skip - row_count d) (omega arith))
    empty-skip (broken ds r rest) =
        let a : at + length (layout d ++ joined ds) ≡ at + length (layout d) + length (joined ds) =
        omega (arith, length-append (layout d) (joined ds)) in
        rw a

    none-skip : (m : Reading) → leb (total_rows (runs_of (after d m))) skip ≡ leb (total_rows (runs_of m)) (skip - row_count d)
    unfolding total_rows
    none-skip m = rw (runs_after d m) (go (total_rows (runs_of m)) (dec_le (row_count d + total_rows (runs_of m)) skip))
      where
        go : (t : ℕ) → Dec (row_count d + t ≤ skip) → leb (row_count d + t) skip ≡ leb t (skip - row_count d)
        go t (yes l) = rw (le-leb (row_count d + t) skip l, le-leb t (skip - row_count d) (omega arith))
        go t (no l) = rw (lt-leb (row_count d + t) skip (omega arith), lt-leb t (skip - row_count d) (omega arith))

    batch-skip : (m : Reading)
        → batch_of signed n (position at skip) (after d m) ≡ batch_of signed n (position next-byte (skip - row_count d)) m
    batch-skip m = rw (none-skip m, empty-skip m, first-skip m)

    pub batch-over : (bs : List ℕ) → stream (drop at bs) ≡ after d (stream (drop next-byte bs))
        → batch signed n bs (position at skip) ≡ batch signed n bs (position next-byte (skip - row_count d))
    unfolding batch
    batch-over bs e = rw e (batch-skip (stream (drop next-byte bs)))

  -- ---- a run that holds the row
  module _ (h : skip < row_count d) where
    abbrev left : ℕ
    left = row_count d - skip

    pub held-some : (m : Reading)
        → batch_of signed n (position at skip) (after d m) ≡ gives (first_rows signed n (position at skip) (after d m))
    held-some m = ap (λ (t : Bool). pick t (empty_of (position at skip) (after d m))
        (gives (first_rows signed n (position at skip) (after d m)))) e
      where
        e : leb (total_rows (runs_of (after d m))) skip ≡ false
        e = rw (runs_after d m, total-cons d (runs_of m)) (lt-leb (row_count d + total_rows (runs_of m)) skip (omega arith))

    rows-held : (ds : List Description) → drop skip (joined_rows signed (d ∷ ds)) ≡ drop skip (i64_rows signed d) ++ joined_rows signed ds
    rows-held ds = rw (rows-cons signed d ds)
        (drop-append-le skip (i64_rows signed d) (joined_rows signed ds) (omega (arith, i64-count signed d)))

    -- the batch ends in it
    pub first-cut : n < left → (m : Reading)
        → first_rows signed n (position at skip) (after d m) ≡ record {
          rows = take n (drop skip (i64_rows signed d));
          next =
              position at (skip + n);
        }
    first-cut l m =
        let ds = runs_of m in
        let e : min n (total_rows (d ∷ ds) - skip) ≡ n = min-eq_left (omega (arith, total-cons d ds)) in
        rw (
          runs_after d m,
          rows-held ds,
          take-append-le n (drop skip (i64_rows signed d)) (joined_rows signed ds) (omega (arith, rest-long signed skip d)),
          e,
          in-first at (skip + n) d ds (omega arith),
        )

    -- the batch goes on after it
    module _ (l : left ≤ n) (ds : List Description) where
      count-on : min n (total_rows (d ∷ ds) - skip) ≡ left + min (n - left) (total_rows ds)
      count-on =
          let a : n ≡ left + (n - left) = omega arith in
          let b : total_rows (d ∷ ds) - skip ≡ left + total_rows ds = omega (arith, total-cons d ds) in
          ap (λ (k : ℕ). min k (total_rows (d ∷ ds) - skip)) a ∙ ap (min (left + (n - left))) b ∙ min-plus left (n - left) (total_rows ds)

      next-on : position_of at (skip + min n (total_rows (d ∷ ds) - skip)) (d ∷ ds) ≡ position_of next-byte
          (0 + min (n - left) (total_rows ds - 0)) ds
      next-on =
          let a : skip + (left + min (n - left) (total_rows ds)) - row_count d ≡ min (n - left) (total_rows ds) =
          past skip (min (n - left) (total_rows ds)) (row_count d) (omega arith) in
          rw (count-on, past_first at (skip + (left + min (n - left) (total_rows ds))) d ds (omega arith), a, sub-zero, zero-add)
        where
          past : (s k c : ℕ) → s ≤ c → s + (c - s + k) - c ≡ k
          past s k c q = omega arith

    pub first_on : left ≤ n → (m : Reading)
        → first_rows signed n (position at skip) (after d m) ≡ before (drop skip (i64_rows signed d))
        (first_rows signed (n - left) (position next-byte 0) m)
    first_on l m =
        let ds = runs_of m in
        rw (
          runs_after d m,
          rows-held ds,
          take_past (drop skip (i64_rows signed d)) (joined_rows signed ds) n (omega (arith, rest-long signed skip d)),
          rest-long signed skip d,
          next-on l ds,
        )

-- ---- no rows, at the beginning of a run

module _ (signed : Bool) (n at : ℕ) where
  pub first-whole : first_rows signed n (position at 0) (whole []) ≡ bare at
  unfolding joined_rows position_of
  first-whole = rw (take-nil n)

  pub first-broken : (r : Reason) (rest : List ℕ) → first_rows signed n (position at 0) (broken [] r rest) ≡ bare at
  unfolding joined_rows position_of
  first-broken r rest = rw (take-nil n)

pub first-zero : (signed : Bool) (at : ℕ) (d : Description) (m : Reading) → 1 ≤ row_count d
    → first_rows signed 0 (position at 0) (after d m) ≡ bare at
first-zero signed at d m h = first-cut signed 0 at 0 d h (omega arith) m

-- ---- one run alone, and all of it has places
pub first_alone : (signed : Bool) (n at skip : ℕ) (d : Description) → skip < row_count d → row_count d - skip ≤ n
    → first_rows signed n (position at skip) (whole (d ∷ [])) ≡ record {
      rows = drop skip (i64_rows signed d);
      next =
          position (at + length (layout d)) 0;
    }
first_alone signed n at skip d h l =
    first_on signed n at skip d h l (whole [])
    ∙ ap (before (drop skip (i64_rows signed d))) (first-whole signed (n - (row_count d - skip)) (at + length (layout d)))
    ∙ rw (append-nil (drop skip (i64_rows signed d)))
