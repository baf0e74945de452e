-- The rows before the first bad one, counted from the front: at each flag the rows passed, and the good ones of what is left, are all.
-- Assumes nothing.
use mathlib.Core.Path.{◌≡◌, refl, sym, ap, ◌∙◌}
use Prim.Native.Nat.{ℕ, suc, ◌+◌, ◌<◌, ◌≤◌}
use native.Mathlib.Numerals.{add-one}
use native.Mathlib.Omega.{arith}
use native.Mathlib.Decide.{dec_lt}
use mathlib.Core.Bool.{Bool, true, false}
use mathlib.Core.List.{List, [], ◌∷◌, map}
use lib.ListN.{length, drop, get_or, length-map, drop_of_length-le, get_or-map}
use lib.Seq.{drop-cons, drop-drop}
use lib.IntN.{ℤ, pos, negsuc}
use borrow.Author.Tests.{ltb-true}
use Rattle.format.specs.Fields.{pick}
use Rattle.format.proofs.Tests.{never}
use Rattle.present.specs.Present.{rows_for}
use Rattle.present.proofs.SpreadLoop.{any-default}
use Rattle.labels.specs.Labels.{size}
use Rattle.labels.specs.Column.{next_inside, has_number, good_rows}

-- ---- the next number

module _ (lengths numbers : List ℤ) (at : ℕ) where
  pub next-missing : length numbers ≤ at → next_inside lengths (drop at numbers) ≡ false
  next-missing h = rw (drop_of_length-le numbers {i = at} h)

  module _ (h : at < length numbers) where
    there : next_inside lengths (drop at numbers) ≡ next_inside lengths (get_or numbers at (pos 0) ∷ drop (suc at) numbers)
    there = ap (next_inside lengths) (drop-cons numbers at (pos 0) h)

  -- a number that is there and of the dictionary
  pub record Inside : Type 0 where
    pub here : at < length numbers
    pub natural : pos (size (get_or numbers at (pos 0))) ≡ get_or numbers at (pos 0)
    pub small : size (get_or numbers at (pos 0)) < length lengths

  pub next-inside : next_inside lengths (drop at numbers) ≡ true → Inside
  next-inside t = go (dec_lt at (length numbers))
    where
      by : (z : ℤ) → next_inside lengths (z ∷ drop (suc at) numbers) ≡ true → (pos (size z) ≡ z) × (size z < length lengths)
      by (pos j) e = (refl, ltb-true j (length lengths) e)
      by (negsuc j) e = never (cc)

      go : Dec (at < length numbers) → Inside
      go (yes h) =
          let b = by (get_or numbers at (pos 0)) (sym (there h) ∙ t) in
          record { here = h; natural = b.0; small = b.1 }
      go (no h) = let f : false ≡ true = sym (next-missing (omega arith)) ∙ t in never (cc)

-- what is made of each number
pub mapped_at : (g : ℤ → ℕ) (numbers : List ℤ) (at : ℕ) → at < length numbers → get_or (map g numbers) at 0 ≡ g (get_or numbers at (pos 0))
mapped_at g numbers at h =
    any-default (map g numbers) at 0 (g (pos 0)) (rw (length-map numbers g) h) ∙ get_or-map g numbers at (pos 0)

-- ---- the rows that have what they need

module _ (lengths : List ℤ) (flags : List ℕ) (numbers : List ℤ) (i next : ℕ) (h : i < length flags) where
  pub good-next : has_number lengths (get_or flags i 0) (drop next numbers) ≡ true
      → good_rows lengths (drop i flags) (drop next numbers)
      ≡ suc (good_rows lengths (drop (i + 1) flags) (drop (next + rows_for (get_or flags i 0)) numbers))
  unfolding good_rows
  good-next t = rw (add-one i, drop-cons flags i 0 h, t, drop-drop (rows_for (get_or flags i 0)) next numbers)

  pub good-bad : has_number lengths (get_or flags i 0) (drop next numbers) ≡ false → good_rows lengths (drop i flags) (drop next numbers) ≡ 0
  unfolding good_rows
  good-bad f = rw (drop-cons flags i 0 h, f)

pub good_none : (lengths : List ℤ) (flags : List ℕ) (numbers : List ℤ) (i : ℕ) → length flags ≤ i
    → good_rows lengths (drop i flags) numbers ≡ 0
unfolding good_rows
good_none lengths flags numbers i h = rw (drop_of_length-le flags {i = i} h)

-- no more rows have what they need than there are
pub good-le : (lengths : List ℤ) (flags : List ℕ) (numbers : List ℤ) → good_rows lengths flags numbers ≤ length flags
unfolding good_rows
good-le lengths [] numbers = omega arith
good-le lengths (f ∷ flags) numbers = go (has_number lengths f numbers) (good-le lengths flags (drop (rows_for f) numbers))
  where
    go : (t : Bool) → good_rows lengths flags (drop (rows_for f) numbers) ≤ length flags
        → pick t (suc (good_rows lengths flags (drop (rows_for f) numbers))) 0 ≤ suc (length flags)
    go true p = omega arith
    go false p = omega arith
