-- Starts and sizes are two columns with missing rows, spread over the same flags, so each turn is a turn of both. Assumes nothing.
use mathlib.Core.Path.{◌≡◌, refl, sym, ap, ◌∙◌}
use Prim.Native.Nat.{ℕ, ◌+◌, ◌<◌, ◌≤◌}
use native.Mathlib.Omega.{arith}
use mathlib.Core.Bool.{Bool, true, false}
use mathlib.Core.List.{List, map}
use lib.ListN.{length, drop, get_or, set, length-append}
use lib.IntN.{ℤ, pos}
use Rattle.format.specs.Fields.{pick}
use Rattle.present.specs.Present.{rows_for}
use Rattle.present.proofs.SpreadLoop.{row_at, SpreadSoFar, so-far-none, so-far-next, so-far-all}
use Rattle.labels.specs.Labels.{is_name}
use Rattle.labels.specs.RowPass.{name_in, RowsReady, RowsLaid}
use Rattle.labels.specs.Column.{next_inside, has_number, good_rows, start_for, size_for}
use Rattle.labels.proofs.ColumnWalk.{Inside, next-inside, mapped_at, good-next, good-bad}
use Rattle.labels.proofs.OffsetLoop.{offsets-length, begins-at}

-- i rows have their labels, and `next` of the numbers are used up
module _ (flags : List ℕ) (numbers lengths : List ℤ) (starts₀ sizes₀ : List ℕ) where
  pub record LabelsSoFar (starts sizes : List ℕ) (next i : ℕ) : Type 0 where
    pub of-starts : SpreadSoFar 0 flags (map (start_for lengths) numbers) starts₀ starts next i
    pub of-sizes : SpreadSoFar 0 flags (map (size_for lengths) numbers) sizes₀ sizes next i
    pub good : i + good_rows lengths (drop i flags) (drop next numbers) ≡ length flags

module _ (flags : List ℕ) (numbers lengths : List ℤ) (offsets starts₀ sizes₀ : List ℕ)
    (y : RowsReady flags numbers lengths offsets (length starts₀) (length sizes₀)) where
  pub labels-none : LabelsSoFar flags numbers lengths starts₀ sizes₀ starts₀ sizes₀ 0 0
  labels-none = record {
    of-starts = so-far-none 0 flags (map (start_for lengths) numbers) starts₀;
    of-sizes = so-far-none 0 flags (map (size_for lengths) numbers) sizes₀;
    good = omega (arith, y.good);
  }

  pub offsets-there : length lengths ≤ length offsets
  offsets-there =
      let l = ap length y.begins.1 in
      omega (arith, simp length-append at l, offsets-length 0 lengths)

  module _ {starts sizes : List ℕ} {next i : ℕ} (w : LabelsSoFar flags numbers lengths starts₀ sizes₀ starts sizes next i)
      (h : i < length flags) where
    abbrev flag : ℕ
    flag = get_or flags i 0

    pub number-there : has_number lengths flag (drop next numbers) ≡ true
    number-there = go (has_number lengths flag (drop next numbers)) refl
      where
        go : (t : Bool) → has_number lengths flag (drop next numbers) ≡ t → t ≡ true
        go true e = refl
        go false e = absurd (omega (arith, w.good, good-bad lengths flags numbers i next h e))

    -- a named row has what is made of its number, and any other 0
    row_is : (g : ℤ → ℕ) (x : ℕ) → (Inside lengths numbers next → x ≡ g (get_or numbers next (pos 0)))
        → pick (is_name flag) x 0 ≡ row_at 0 flags (map g numbers) next i
    row_is g x e = go (is_name flag) number-there
      where
        go : (t : Bool) → pick t (next_inside lengths (drop next numbers)) true ≡ true → pick t x 0 ≡ pick t (get_or (map g numbers) next 0) 0
        go true n = let k = next-inside lengths numbers next n in e k ∙ sym (mapped_at g numbers next k.here)
        go false n = refl

    pub labels_next : let name = name_in flag numbers next lengths offsets in
        LabelsSoFar flags numbers lengths starts₀ sizes₀ (set starts i name.start.bytes) (set sizes i name.size.bytes)
        (next + rows_for flag) (i + 1)
    labels_next =
        let name = name_in flag numbers next lengths offsets in
        let s : name.start.bytes ≡ row_at 0 flags (map (start_for lengths) numbers) next i
        = row_is (start_for lengths) _ (λ k. begins-at lengths offsets y.begins.0 y.begins.1 _ k.small) in
        let z : name.size.bytes ≡ row_at 0 flags (map (size_for lengths) numbers) next i
        = row_is (size_for lengths) _ (λ k. refl) in
        record {
          of-starts = rw s (so-far-next 0 flags _ starts₀ w.of-starts h y.in-starts);
          of-sizes = rw z (so-far-next 0 flags _ sizes₀ w.of-sizes h y.in-sizes);
          good = omega (arith, w.good, good-next lengths flags numbers i next h number-there);
        }

  pub labels-all : {starts sizes : List ℕ} {next i : ℕ} → LabelsSoFar flags numbers lengths starts₀ sizes₀ starts sizes next i
      → length flags ≤ i → RowsLaid flags numbers lengths starts₀ sizes₀ starts sizes
  labels-all w h = record {
    starts-are = so-far-all 0 flags _ starts₀ w.of-starts h;
    sizes-are = so-far-all 0 flags _ sizes₀ w.of-sizes h;
  }
