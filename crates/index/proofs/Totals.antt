-- Rows counted in 64 bits. Assumes nothing.
use mathlib.Core.Path.{◌≡◌, refl, ap}
use Prim.Native.Nat.{ℕ, ◌<◌, ◌≤◌}
use mathlib.Core.Bool.{Bool, true, false}
use lib.Dec.{leb}
use borrow.Author.Tests.{le-leb, lt-leb, leb-true, leb-false}
use Rattle.format.specs.Fields.{pick, two64}
use Rattle.format.specs.declared.RowNumber.{RowNumber}
use Rattle.format.proofs.Tests.{never}
use Rattle.std.specs.Prelude.{Option, Some, None}
use Rattle.index.specs.Walk.{total_of}

pub data Counts (m : ℕ) : Option RowNumber → Type 0 where
  counts-rows : m < two64 → Counts m (Some (record { rows = m }))
  counts_past : two64 ≤ m → Counts m None

pub counts : (m : ℕ) → Counts m (total_of m)
unfolding total_of
counts m = go (leb two64 m) refl
  where
    go : (t : Bool) → leb two64 m ≡ t → Counts m (pick t None (Some (record { rows = m })))
    go true e = counts_past (leb-true two64 m e)
    go false e = counts-rows (leb-false two64 m e)

pub total-past : (m : ℕ) → two64 ≤ m → None ≡ total_of m
unfolding total_of
total-past m h = rw (le-leb two64 m h)

pub total-rows : (m : ℕ) → m < two64 → Some (record { rows = m }) ≡ total_of m
unfolding total_of
total-rows m h = rw (lt-leb two64 m h)

-- by what a total shows
module _ (m : ℕ) where
  pub rows_are : (k : ℕ) → Some (record { rows = k }) ≡ total_of m → (k ≡ m) × (m < two64)
  rows_are k e = go (counts m) e
    where
      go : {t : Option RowNumber} → Counts m t → Some (record { rows = k }) ≡ t → (k ≡ m) × (m < two64)
      go (counts-rows h) e = let q : ◌≡◌ {A = RowNumber} (record { rows = k }) (record { rows = m }) = cc in (ap (λ (n : RowNumber). n.rows) q, h)
      go (counts_past h) e = never (cc)

  pub past_is : None ≡ total_of m → two64 ≤ m
  past_is e = go (counts m) e
    where
      go : {t : Option RowNumber} → Counts m t → None ≡ t → two64 ≤ m
      go (counts-rows h) e = never (cc)
      go (counts_past h) e = h
