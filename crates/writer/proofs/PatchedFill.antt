-- The turns of the loop that fills a patch list: what stands so far, then the entries still to come, is the whole. Assumes nothing.
use Rattle.format.proofs.Common.{◌≡◌, refl, sym, ap, ◌∙◌, ℕ, suc, ◌+◌, ◌-◌, ◌*◌, ◌/◌, ◌^◌, ◌<◌, ◌≤◌, add-one, arith, List, [], ◌∷◌, ◌++◌}
use Rattle.format.proofs.Common.{map, append-nil, length, get_or, take, set, length-set, length-append, length-map, length-replicate, slice}
use Rattle.format.proofs.Common.{slice-cons, slice_empty, length-take-le, eq-eqb, ne_eqb}
use Rattle.format.specs.Runs.{Patch}
use Rattle.format.specs.PatchedWriting.{patches_above, Entry, skip, entries_from, field}
use Rattle.format.proofs.PatchedWriting.{skip-next, entry_next}
use Rattle.util.proofs.Grow.{grow}
use Rattle.std.specs.Prelude.{None, Some}
use Rattle.writer.specs.PatchedBase.{Listed}

-- ---- rows and their patches

above-none : (w p d : ℕ) (ds : List ℕ) → d / 2 ^ w ≡ 0 → patches_above w p (d ∷ ds) ≡ patches_above w (suc p) ds
unfolding patches_above
above-none w p d ds e = rw (eq-eqb (d / 2 ^ w) 0 e)

above-one : (w p d : ℕ) (ds : List ℕ) → (d / 2 ^ w ≡ 0 → ⊥) → patches_above w p (d ∷ ds) ≡ record { place = p; patch = d / 2 ^ w } ∷ patches_above w (suc p) ds
unfolding patches_above
above-one w p d ds n = rw (ne_eqb (d / 2 ^ w) 0 n)

-- ---- patches and their entries

some-entry : (from : ℕ) (q : Patch) (qs : List Patch) → 1 ≤ length (entries_from from (q ∷ qs))
unfolding entries_from
some-entry from q qs = simp (length-append, length-replicate) (omega arith)

no-entry : (from : ℕ) → entries_from from [] ≡ []
unfolding entries_from
no-entry from = refl

-- ---- the loop, at row i, with k entries that lead to the place `from`

abbrev pub to_come : List ℕ → ℕ → ℕ → ℕ → ℕ → List Entry
to_come vals n w i from = entries_from from (patches_above w i (slice i n vals))

pub record Filling (vals : List ℕ) (n w pw : ℕ) (list : List ℕ) (i from k : ℕ) : Type 0 where
  pub rows : i ≤ n
  pub led : from ≤ i
  pub room : k ≤ length list
  pub whole : take k list ++ map (field pw) (to_come vals n w i from) ≡ map (field pw) (entries_from 0 (patches_above w 0 (take n vals)))

pub filling : (vals : List ℕ) (n w pw : ℕ) (list : List ℕ) → Filling vals n w pw list 0 0 0
filling vals n w pw list = record { rows = omega arith; led = omega arith; room = omega arith; whole = refl }

module _ {vals : List ℕ} {n w pw : ℕ} {list : List ℕ} {i from k : ℕ} (f : Filling vals n w pw list i from k) where
  abbrev value : ℕ
  value = get_or vals i 0

  abbrev this : Patch
  this = record { place = i; patch = value / 2 ^ w }

  abbrev rest : List Patch
  rest = patches_above w (suc i) (slice (suc i) n vals)

  module _ (h : i < n) (l : n ≤ length vals) where
    pub no-patch : value / 2 ^ w ≡ 0 → Filling vals n w pw list (i + 1) from k
    no-patch z = record {
      rows = omega arith;
      led = omega (arith, f.led);
      room = f.room;
      whole = rw (add-one, ← (above-none w i value (slice (suc i) n vals) z), ← (slice-cons i n vals 0 h l)) f.whole;
    }

    module _ (z : value / 2 ^ w ≡ 0 → ⊥) where
      come : to_come vals n w i from ≡ entries_from from (this ∷ rest)
      come = rw (slice-cons i n vals 0 h l, above-one w i value (slice (suc i) n vals) z)

      pub put-skip : k < length list → from + 255 < i → (e : ℕ) → e ≡ 255 * 2 ^ pw + 0 → Filling vals n w pw (set list k e) i (from + 255) (k + 1)
      put-skip r g e q = record {
        rows = f.rows;
        led = omega arith;
        room = simp length-set (omega arith);
        whole =
            rw (slice-cons i n vals 0 h l, above-one w i value (slice (suc i) n vals) z, q)
            (grow list k (field pw skip) (map (field pw) (entries_from (from + 255) (this ∷ rest))) _ r (rw (come, skip-next from this rest g) at f.whole));
      }

      pub put-entry : k < length list → i ≤ from + 255 → (e : ℕ) → e ≡ (i - from) * 2 ^ pw + value / 2 ^ w
          → Filling vals n w pw (set list k e) (i + 1) i (k + 1)
      put-entry r g e q = record {
        rows = omega arith;
        led = omega arith;
        room = simp length-set (omega arith);
        whole =
            rw (add-one i, q)
            (grow list k (field pw (record { gap = i - from; patch = value / 2 ^ w })) (map (field pw) (entries_from i rest)) _ r
            (rw (come, entry_next from this rest g) at f.whole));
      }

      pub too_long : k ≡ length list → Listed pw (entries_from 0 (patches_above w 0 (take n vals))) list None
      too_long e = omega (arith, count, some-entry from this rest)
        where
          count : length list + length (entries_from from (this ∷ rest)) ≡ length (entries_from 0 (patches_above w 0 (take n vals)))
          count =
              let s : length (take k list) ≡ length list = length-take-le k list f.room ∙ e in
              sym (ap (λ (x : ℕ). x + length (entries_from from (this ∷ rest))) s)
              ∙ simp (length-append, length-map) at (ap (λ (x : List ℕ). length x) (rw come at f.whole))

  pub filled-up : n ≤ i → Listed pw (entries_from 0 (patches_above w 0 (take n vals))) list (Some k)
  unfolding patches_above entries_from
  filled-up h =
      let e : i ≡ n = omega (arith, f.rows) in
      (f.room, sym (append-nil (take k list)) ∙ rw (e, slice_empty n vals) at f.whole)
