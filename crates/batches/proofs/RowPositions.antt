-- The position of a row is in the first run or in those after it; so are the parts of its rows. Assumes nothing.
use mathlib.Core.Path.{◌≡◌, refl, ap, ◌∙◌}
use Prim.Native.Nat.{ℕ, ◌+◌, ◌-◌, ◌<◌, ◌≤◌}
use native.Mathlib.Omega.{arith}
use mathlib.Core.Bool.{Bool}
use mathlib.Core.List.{List, [], ◌∷◌, ◌++◌}
use lib.ListN.{length, take, drop, length-drop}
use lib.Seq.{drop-append-add, take-append-add}
use lib.IntN.{ℤ}
use borrow.Author.Tests.{le-ltb, lt-ltb}
use Rattle.format.specs.Runs.{Description, row_count, layout}
use Rattle.format.specs.Rows.{i64_rows}
use Rattle.format.specs.Streams.{Reading, whole, broken, after, runs_of, joined_rows}
use Rattle.format.proofs.Rows.{i64-count}
use Rattle.batches.specs.Batches.{Position, RowBatch, position_of}
use Rattle.batches.specs.declared.RowPosition.{RowPosition}

abbrev pub position : ℕ → ℕ → Position
position run skip = record { run = run; skip = skip }

abbrev pub row_position : ℕ → ℕ → RowPosition
row_position run skip = record { run = record { bytes = run }; skip = record { rows = skip } }

-- rows that stand before a batch's
abbrev pub before : List ℤ → RowBatch → RowBatch
before rows g = record { rows = rows ++ g.rows; next = g.next }

-- no rows, at the beginning of a run
abbrev pub bare : ℕ → RowBatch
bare at = record { rows = []; next = position at 0 }

pub runs_after : (d : Description) (m : Reading) → runs_of (after d m) ≡ d ∷ runs_of m
runs_after d (whole ds) = refl
runs_after d (broken ds r rest) = refl

-- ---- parts of joined lists

module _ {A : Type 0} (xs ys : List A) where
  pub drop_past : (n : ℕ) → length xs ≤ n → drop n (xs ++ ys) ≡ drop (n - length xs) ys
  drop_past n h = let e : n ≡ length xs + (n - length xs) = omega arith in
      ap (λ (k : ℕ). drop k (xs ++ ys)) e ∙ drop-append-add xs ys (n - length xs)

  pub take_past : (n : ℕ) → length xs ≤ n → take n (xs ++ ys) ≡ xs ++ take (n - length xs) ys
  take_past n h = let e : n ≡ length xs + (n - length xs) = omega arith in
      ap (λ (k : ℕ). take k (xs ++ ys)) e ∙ take-append-add xs ys (n - length xs)

-- ---- the position of a row

module _ (at k : ℕ) (d : Description) (ds : List Description) where
  pub in-first : k < row_count d → position_of at k (d ∷ ds) ≡ position at k
  unfolding position_of
  in-first h = rw (lt-ltb k (row_count d) h)

  pub past_first : row_count d ≤ k → position_of at k (d ∷ ds) ≡ position_of (at + length (layout d)) (k - row_count d) ds
  unfolding position_of
  past_first h = rw (le-ltb k (row_count d) h)

pub no_run : (at k : ℕ) → position_of at k [] ≡ position at 0
unfolding position_of
no_run at k = refl

pub rows-cons : (signed : Bool) (d : Description) (ds : List Description)
    → joined_rows signed (d ∷ ds) ≡ i64_rows signed d ++ joined_rows signed ds
unfolding joined_rows
rows-cons signed d ds = refl

-- the rows of a run without the first few
pub rest-long : (signed : Bool) (skip : ℕ) (d : Description) → length (drop skip (i64_rows signed d)) ≡ row_count d - skip
rest-long signed skip d = length-drop skip (i64_rows signed d) ∙ ap (λ (k : ℕ). k - skip) (i64-count signed d)
