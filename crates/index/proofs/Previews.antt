-- What reading from a row answers, by what looking it up answered. Assumes nothing.
use mathlib.Core.Path.{◌≡◌, refl, sym, ap, ◌∙◌}
use Prim.Native.Nat.{ℕ, zero, suc, ◌+◌, ◌-◌, ◌<◌, ◌≤◌}
use native.Mathlib.Omega.{arith}
use native.Mathlib.Nat.{zero-add}
use mathlib.Core.Bool.{Bool, true, false}
use mathlib.Core.List.{List, [], ◌∷◌, ◌++◌, map}
use lib.ListN.{length, drop, get_or, length-append, length-drop, length-map}
use lib.Seq.{drop_at, drop-append-add}
use lib.Dec.{ltb}
use lib.IntN.{ℤ}
use borrow.Author.Tests.{lt-leb, le-ltb, lt-ltb, ltb-true, ltb-false}
use Rattle.format.specs.Fields.{pick}
use Rattle.format.specs.Runs.{Description, row_count, joined}
use Rattle.format.specs.Parse.{plain}
use Rattle.format.specs.Streams.{total_rows, joined_rows}
use Rattle.format.specs.declared.RowNumber.{RowNumber}
use Rattle.format.proofs.Rows.{joined-count}
use Rattle.format.proofs.Joined.{total-append, joined-append, rows_append, valid-behind}
use Rattle.format.proofs.Tests.{never}
use Rattle.index.specs.Entries.{gives, refuses, preview_places}
use Rattle.index.specs.Columns.{Columns, sums_before, reading_in}
use Rattle.index.specs.Promises.{preview_of, read_rows, not_read, ReadFrom}
use Rattle.std.specs.Prelude.{Option, Some, None}
use Rattle.index.specs.Walk.{left_of, Ready, RowsLaid}
use Rattle.index.proofs.Entries.{total-cons}
use Rattle.index.proofs.Looked.{Through}

-- ---- the last place of a stream's columns: its first row and its rows add up to all of them

pub sums-length : (x : ℕ) (l : List ℕ) → length (sums_before x l) ≡ length l
unfolding sums_before
sums-length x [] = refl
sums-length x (n ∷ l) = ap suc (sums-length (x + n) l)

last_sum : (f : ℕ) (ds : List Description) (k : ℕ) → suc k ≡ length ds
    → get_or (sums_before f (map row_count ds)) k 0 + get_or (map row_count ds) k 0 ≡ f + total_rows ds
unfolding sums_before total_rows
last_sum f [] k h = absurd (omega arith)
last_sum f (d ∷ []) zero h = omega arith
last_sum f (d ∷ []) (suc k) h = absurd (omega arith)
last_sum f (d ∷ e ∷ ds) zero h = absurd (omega arith)
last_sum f (d ∷ e ∷ ds) (suc k) h = omega (arith, last_sum (f + row_count d) (e ∷ ds) k (omega arith))

-- ---- how many rows are left, by what was answered

pub left-many : (x y r p : ℕ) → None ≡ left_of x y r p → p < x + y - r
left-many x y r p e = go (ltb p (x + y - r)) refl e
  where
    go : (t : Bool) → ltb p (x + y - r) ≡ t → ◌≡◌ {A = Option RowNumber} None (pick t None (Some (record { rows = x + y - r }))) → p < x + y - r
    go true q e = ltb-true p (x + y - r) q
    go false q e = never (cc)

pub left-rows : (x y r p k : ℕ) → Some (record { rows = k }) ≡ left_of x y r p → (k ≡ x + y - r) × (k ≤ p)
left-rows x y r p k e = go (ltb p (x + y - r)) refl e
  where
    go : (t : Bool) → ltb p (x + y - r) ≡ t → ◌≡◌ {A = Option RowNumber} (Some (record { rows = k })) (pick t None (Some (record { rows = x + y - r })))
        → (k ≡ x + y - r) × (k ≤ p)
    go true q e = never (cc)
    go false q e =
        let u : ◌≡◌ {A = RowNumber} (record { rows = k }) (record { rows = x + y - r }) = cc in
        let w : k ≡ x + y - r = ap (λ (n : RowNumber). n.rows) u in
        (w, omega (arith, ltb-false p (x + y - r) q))

module _ (bs f o n : List ℕ) (r : ℕ) where
  abbrev c : Columns
  c = record { firsts = f; offsets = o; counts = n }

  module _ (first at : ℕ) (t : Through bs f o n r first at) where
    abbrev ds : List Description
    ds = t.before ++ (t.run ∷ t.behind)

    f-is : f ≡ sums_before 0 (map row_count ds)
    f-is = ap (λ (x : Columns). x.firsts) t.columns_of

    n-is : n ≡ map row_count ds
    n-is = ap (λ (x : Columns). x.counts) t.columns_of

    f-long : length f ≡ length ds
    f-long = ap length f-is ∙ sums-length 0 (map row_count ds) ∙ length-map ds row_count

    pub some : 1 ≤ length f
    some = omega (arith, f-long, length-append t.before (t.run ∷ t.behind))

    pub n-long : length n ≡ length f
    n-long = ap length n-is ∙ length-map ds row_count ∙ sym f-long

    pub last-is : get_or f (length f - 1) 0 + get_or n (length f - 1) 0 ≡ total_rows ds
    last-is =
        ap (λ (x : List ℕ). get_or x (length f - 1) 0 + get_or n (length f - 1) 0) f-is
        ∙ ap (λ (x : List ℕ). get_or (sums_before 0 (map row_count ds)) (length f - 1) 0 + get_or x (length f - 1) 0) n-is
        ∙ last_sum 0 ds (length f - 1) (omega (arith, some, f-long)) ∙ zero-add (total_rows ds)

    total-is : total_rows ds ≡ first + (row_count t.run + total_rows t.behind)
    total-is = omega (arith, total-append t.before (t.run ∷ t.behind), total-cons t.run t.behind, t.first-is)

    pub row_below : r < get_or f (length f - 1) 0 + get_or n (length f - 1) 0
    row_below = omega (arith, last-is, total-is, t.below)

    rest-is : drop at bs ≡ joined (t.run ∷ t.behind)
    rest-is = ap (drop at) (t.bytes ∙ joined-append t.before (t.run ∷ t.behind))
        ∙ drop_at (joined t.before) (joined (t.run ∷ t.behind)) at (sym t.at-is)

    pub ready : (places : ℕ) → total_rows ds - r ≤ places → Ready bs at (r - first) places
    ready places l = record {
      run = t.run;
      behind = t.behind;
      valid = valid-behind t.before (t.run ∷ t.behind) t.valid;
      bytes = rest-is;
      within = omega (
        arith,
        t.at-is,
        ap length (t.bytes ∙ joined-append t.before (t.run ∷ t.behind)),
        length-append (joined t.before) (joined (t.run ∷ t.behind)),
      );
      skips = omega (arith, t.from, t.below);
      room = omega (arith, total-is, total-cons t.run t.behind, t.from, l);
    }

    module _ (signed : Bool) (out : List ℤ) where
      reading-is : (b : Bool) → ltb (length out) (total_rows ds - r) ≡ b
          → reading_in signed (length out) c bs r ≡ pick b (refuses (plain 8) 0) (gives (drop r (joined_rows signed ds)))
      unfolding reading_in
      reading-is true e = rw (t.checked-is, lt-leb (total_rows ds) r (omega (arith, total-is, t.below)), e)
      reading-is false e = rw (t.checked-is, lt-leb (total_rows ds) r (omega (arith, total-is, t.below)), e)

      pub eight-so : length out < total_rows ds - r → ReadFrom bs c r signed out out (not_read 8)
      eight-so h =
          let e = reading-is true (lt-ltb (length out) (total_rows ds - r) h) in
          record { answer = sym (ap preview_of e); places = sym (ap (preview_places out) e) }

      rows_are : drop r (joined_rows signed ds) ≡ drop (r - first) (joined_rows signed (t.run ∷ t.behind))
      rows_are =
          let k : r ≡ length (joined_rows signed t.before) + (r - first) = omega (arith, joined-count signed t.before, t.first-is, t.from) in
          ap (λ (x : ℕ). drop x (joined_rows signed ds)) k
          ∙ ap (drop (length (joined_rows signed t.before) + (r - first))) (rows_append signed t.before (t.run ∷ t.behind))
          ∙ drop-append-add (joined_rows signed t.before) (joined_rows signed (t.run ∷ t.behind)) (r - first)

      rows_long : length (drop r (joined_rows signed ds)) ≡ total_rows ds - r
      rows_long = length-drop r (joined_rows signed ds) ∙ ap (λ (x : ℕ). x - r) (joined-count signed ds)

      pub rows-so : (k : ℕ) → k ≡ total_rows ds - r → k ≤ length out → (out' : List ℤ) → RowsLaid bs at (r - first) signed out out'
          → ReadFrom bs c r signed out out' (read_rows k)
      rows-so k q l out' w =
          let e = reading-is false (le-ltb (length out) (total_rows ds - r) (omega arith)) in
          let m : total_rows (t.run ∷ t.behind) - (r - first) ≡ length (drop r (joined_rows signed ds)) =
          omega (arith, rows_long, total-is, total-cons t.run t.behind, t.from) in
          record {
            answer = ap read_rows (q ∙ sym rows_long) ∙ sym (ap preview_of e);
            places =
                w.laid (t.run ∷ t.behind) (valid-behind t.before (t.run ∷ t.behind) t.valid) rest-is
                ∙ ap (λ (x : List ℤ). x ++ drop (total_rows (t.run ∷ t.behind) - (r - first)) out) (sym rows_are)
                ∙ ap (λ (x : ℕ). drop r (joined_rows signed ds) ++ drop x out) m
                ∙ sym (ap (preview_places out) e);
          }
