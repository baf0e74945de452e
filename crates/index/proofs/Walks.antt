-- The walks that find a stream's runs and compare them with columns: what is left at each place gives the whole's answer. Assumes nothing.
use mathlib.Core.Path.{◌≡◌, refl, sym, ap, ◌∙◌}
use mathlib.Core.Logic.{◌⊎◌, inl, inr}
use Prim.Native.Nat.{ℕ, suc, ◌+◌, ◌<◌, ◌≤◌}
use native.Mathlib.Omega.{arith}
use native.Mathlib.Decide.{dec_lt}
use native.Mathlib.Nat.{add-zero}
use mathlib.Core.Bool.{Bool, true, false, ◌&&◌, and-false}
use mathlib.Core.List.{List, [], ◌∷◌, ◌++◌}
use lib.ListN.{length, drop, get_or, length-append, length-drop, drop_of_length-le}
use lib.Seq.{drop-cons}
use lib.Dec.{eqb}
use borrow.Author.Tests.{eq-eqb, ne_eqb}
use Rattle.format.specs.Runs.{Description, row_count, layout, joined}
use Rattle.format.specs.Streams.{Reading, whole, broken, after, stream, total_rows}
use Rattle.format.specs.declared.Refusal.{Refusal}
use Rattle.format.specs.declared.Run.{Run}
use Rattle.format.proofs.StreamRoom.{stream-none}
use Rattle.index.specs.Columns.{sums_before}
use Rattle.index.specs.Entries.{same}
use Rattle.std.specs.Prelude.{Option, Some, Ok, Err}
use Rattle.format.specs.declared.RowNumber.{RowNumber}
use Rattle.index.specs.Walk.{total_of, survey_from, right_from, same_three}
use Rattle.index.proofs.Columns.{regrouped}
use Rattle.index.proofs.MeasuredRun.{OneRun, NoRun, broken-here}

none_yet : Some (record { rows = 0 }) ≡ total_of 0
unfolding total_of
none_yet = refl

-- ---- one run more

survey-after : (k rows p : ℕ) (d : Description) (m : Reading)
    → survey_from k rows p (after d m) ≡ survey_from (k + 1) (rows + row_count d) (p + length (layout d)) m
unfolding total_rows joined
survey-after k rows p d (whole ds) =
    let a : k + suc (length ds) ≡ k + 1 + length ds = omega arith in
    let b : rows + (row_count d + total_rows ds) ≡ rows + row_count d + total_rows ds = omega arith in
    rw (a, b)
survey-after k rows p d (broken ds r rest) =
    let a : p + length (layout d ++ joined ds) ≡ p + length (layout d) + length (joined ds) = omega (arith, length-append (layout d) (joined ds)) in
    rw a

module _ (first at : ℕ) (d : Description) where
  right-after : (f o n : ℕ) (fs os ns : List ℕ) (m : Reading)
      → right_from first at (f ∷ fs) (o ∷ os) (n ∷ ns) (after d m)
      ≡ same_three f o n first at (row_count d) && right_from (first + row_count d) (at + length (layout d)) fs os ns m
  unfolding same sums_before
  right-after f o n fs os ns (whole ds) = sym (regrouped (eqb f first) (eqb o at) (eqb n (row_count d)) _ _ _ _ refl)
  right-after f o n fs os ns (broken ds r rest) = sym (and-false (same_three f o n first at (row_count d)))

  right-short : (os ns : List ℕ) (m : Reading) → right_from first at [] os ns (after d m) ≡ false
  unfolding same sums_before
  right-short os ns (whole ds) = refl
  right-short os ns (broken ds r rest) = refl

right-empty : (first at i : ℕ) (fs os ns : List ℕ) → i ≤ length fs → length os ≡ length fs → length ns ≡ length fs
    → right_from first at (drop i fs) (drop i os) (drop i ns) (whole []) ≡ eqb i (length fs)
unfolding same sums_before
right-empty first at i fs os ns h p q = go (dec_lt i (length fs))
  where
    go : Dec (i < length fs) → right_from first at (drop i fs) (drop i os) (drop i ns) (whole []) ≡ eqb i (length fs)
    go (yes l) = rw (ne_eqb i (length fs) (λ e. omega arith), drop-cons fs i 0 l)
    go (no l) =
        rw (
          eq-eqb i (length fs) (omega arith),
          drop_of_length-le fs {i = i} (omega arith),
          drop_of_length-le os {i = i} (omega arith),
          drop_of_length-le ns {i = i} (omega arith),
        )

-- ---- THE WALK THAT COUNTS: k runs and p bytes are passed

pub record Surveyed (s : List ℕ) (p k : ℕ) (t : Option RowNumber) : Type 0 where
  pub rows : ℕ
  pub total-is : t ≡ total_of rows
  pub within : p ≤ length s
  pub few : k ≤ p
  pub so_far : survey_from k rows p (stream (drop p s)) ≡ survey_from 0 0 0 (stream s)

pub surveyed-first : (s : List ℕ) → Surveyed s 0 0 (Some (record { rows = 0 }))
surveyed-first s = record { rows = 0; total-is = none_yet; within = omega arith; few = omega arith; so_far = refl }

module _ {s : List ℕ} {p k : ℕ} {t : Option RowNumber} (w : Surveyed s p k t) where
  pub surveyed-run : {r : Run} {t' : Option RowNumber} → OneRun s p r → ((m : ℕ) → t ≡ total_of m → t' ≡ total_of (m + r.rows.rows))
      → Surveyed s (p + r.consumed.bytes) (k + 1) t'
  surveyed-run {r} {t'} o e = record {
    rows = w.rows + r.rows.rows;
    total-is = e w.rows w.total-is;
    within = o.within;
    few = omega (arith, w.few, o.some_bytes);
    so_far =
        rw (o.rows_are, o.bytes-are)
        (sym (survey-after k w.rows p o.run (stream (drop (p + length (layout o.run)) s)))
        ∙ sym (ap (survey_from k w.rows p) (rw o.bytes-are at o.onward)) ∙ w.so_far);
  }

  pub surveyed-whole : drop p s ≡ [] → Ok (record { runs = k; rows = t }) ≡ survey_from 0 0 0 (stream s)
  unfolding total_rows
  surveyed-whole z = rw w.total-is (rw (z, stream-none, add-zero, add-zero) at w.so_far)

  pub surveyed-refused : {f : Refusal} → NoRun s p f → Err f ≡ survey_from 0 0 0 (stream s)
  unfolding joined
  surveyed-refused q = rw q.refusal_is (rw (broken-here q, add-zero, length-drop) at w.so_far)

-- ---- THE WALK THAT COMPARES: i places of the columns are the stream's

pub record Matched (s fs os ns : List ℕ) (p i : ℕ) (t : Option RowNumber) : Type 0 where
  pub rows : ℕ
  pub total-is : t ≡ total_of rows
  pub within : p ≤ length s
  pub few : i ≤ length fs
  pub so_far : right_from rows p (drop i fs) (drop i os) (drop i ns) (stream (drop p s)) ≡ right_from 0 0 fs os ns (stream s)

pub matched-first : (s fs os ns : List ℕ) → Matched s fs os ns 0 0 (Some (record { rows = 0 }))
matched-first s fs os ns = record { rows = 0; total-is = none_yet; within = omega arith; few = omega arith; so_far = refl }

module _ {s fs os ns : List ℕ} {p i : ℕ} {t : Option RowNumber} (w : Matched s fs os ns p i t) where
  module _ {r : Run} (o : OneRun s p r) where
    pub matched-short : length fs ≤ i → false ≡ right_from 0 0 fs os ns (stream s)
    matched-short h =
        sym (right-short w.rows p o.run (drop i os) (drop i ns) (stream (drop (p + r.consumed.bytes) s)))
        ∙ rw (drop_of_length-le fs {i = i} h, o.onward) at w.so_far

    module _ (h : i < length fs) (a : length os ≡ length fs) (b : length ns ≡ length fs) where
      next-is : same_three (get_or fs i 0) (get_or os i 0) (get_or ns i 0) w.rows p (row_count o.run)
          && right_from (w.rows + row_count o.run) (p + length (layout o.run)) (drop (suc i) fs) (drop (suc i) os) (drop (suc i) ns)
          (stream (drop (p + r.consumed.bytes) s))
          ≡ right_from 0 0 fs os ns (stream s)
      next-is =
          sym (right-after w.rows p o.run _ _ _ (drop (suc i) fs) (drop (suc i) os) (drop (suc i) ns) (stream (drop (p + r.consumed.bytes) s)))
          ∙ (rw (o.onward, drop-cons fs i 0 h, drop-cons os i 0 (omega arith), drop-cons ns i 0 (omega arith)) at w.so_far)

      module _ {yes : Bool} (e : (m : ℕ) → t ≡ total_of m → yes ≡ same_three (get_or fs i 0) (get_or os i 0) (get_or ns i 0) m p r.rows.rows) where
        pub matched-other : yes ≡ false → false ≡ right_from 0 0 fs os ns (stream s)
        matched-other n = rw (← o.rows_are, ← (e w.rows w.total-is), n) at next-is

        pub matched-run : yes ≡ true → {t' : Option RowNumber} → ((m : ℕ) → t ≡ total_of m → t' ≡ total_of (m + r.rows.rows))
            → Matched s fs os ns (p + r.consumed.bytes) (i + 1) t'
        matched-run y {t'} f =
            let s1 : i + 1 ≡ suc i = omega arith in
            record {
              rows = w.rows + r.rows.rows;
              total-is = f w.rows w.total-is;
              within = o.within;
              few = omega arith;
              so_far = rw s1 (rw (← o.rows_are, ← (e w.rows w.total-is), y, ← o.bytes-are) at next-is);
            }

  pub matched-end : length os ≡ length fs → length ns ≡ length fs → drop p s ≡ [] → eqb i (length fs) ≡ right_from 0 0 fs os ns (stream s)
  matched-end a b z = sym (right-empty w.rows p i fs os ns w.few a b) ∙ (rw (z, stream-none) at w.so_far)

  pub matched-refused : {f : Refusal} → NoRun s p f → false ≡ right_from 0 0 fs os ns (stream s)
  matched-refused q = rw (broken-here q) at w.so_far

  pub matched-stop : p < length s → (drop p s ≡ []) ⊎ ((f : Refusal) × NoRun s p f) → false ≡ right_from 0 0 fs os ns (stream s)
  matched-stop l (inl z) = absurd (omega (arith, l, length-drop p s, ap length z))
  matched-stop l (inr (f, q)) = matched-refused q
