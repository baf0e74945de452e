-- The entries of a stream's runs: when two tables are the same, and that first row and offset are the sums before. Assumes nothing.
use mathlib.Core.Path.{◌≡◌, refl, ap}
use Prim.Native.Nat.{ℕ, suc, ◌+◌}
use native.Mathlib.Omega.{arith}
use native.Mathlib.Nat.{add-zero, zero-add}
use mathlib.Core.Bool.{Bool}
use mathlib.Core.List.{List, [], ◌∷◌, ◌++◌, append-nil}
use lib.ListN.{length, length-append}
use lib.Dec.{T, eqb, eqb→eq, eqb_refl}
use Rattle.format.specs.Runs.{Description, row_count, layout, joined}
use Rattle.format.specs.Streams.{total_rows}
use Rattle.format.proofs.Joined.{joined-append, total-snoc}
use Rattle.format.proofs.Tests.{and-e, and_i}
use Rattle.index.specs.Entries.{Entry, entries_from, same, same_entry}
use Rattle.index.specs.Theorems.{EntriesHold}

-- ---- tests

pub same-sound : {A : Type 0} (eq : A → A → Bool) → ((x y : A) → T (eq x y) → x ≡ y) → (xs ys : List A) → T (same eq xs ys) → xs ≡ ys
unfolding same
same-sound eq h [] [] t = refl
same-sound eq h [] (y ∷ ys) t = absurd t
same-sound eq h (x ∷ xs) [] t = absurd t
same-sound eq h (x ∷ xs) (y ∷ ys) t =
    let p = and-e (eq x y) (same eq xs ys) t in
    let e : x ≡ y = h x y p.0 in
    let f : xs ≡ ys = same-sound eq h xs ys p.1 in
    cc

pub same_refl : {A : Type 0} (eq : A → A → Bool) → ((x : A) → T (eq x x)) → (xs : List A) → T (same eq xs xs)
unfolding same
same_refl eq h [] = tt
same_refl eq h (x ∷ xs) = and_i (eq x x) (same eq xs xs) (h x) (same_refl eq h xs)

pub entry-sound : (e f : Entry) → T (same_entry e f) → e ≡ f
entry-sound e f t =
    let p = and-e (eqb e.first f.first) _ t in
    let q = and-e (eqb e.at f.at) _ p.1 in
    let a : e.first ≡ f.first = eqb→eq _ _ p.0 in
    let b : e.at ≡ f.at = eqb→eq _ _ q.0 in
    let c : e.rows ≡ f.rows = eqb→eq _ _ q.1 in
    rw (a, b, c)

pub entry-refl : (e : Entry) → T (same_entry e e)
entry-refl e = and_i (eqb e.first e.first) _ (eqb_refl e.first) (and_i (eqb e.at e.at) _ (eqb_refl e.at) (eqb_refl e.rows))

-- ---- one entry a run

pub total-cons : (d : Description) (ds : List Description) → total_rows (d ∷ ds) ≡ row_count d + total_rows ds
unfolding total_rows
total-cons d ds = refl

pub entries-length : (f a : ℕ) (ds : List Description) → length (entries_from f a ds) ≡ length ds
unfolding entries_from
entries-length f a [] = refl
entries-length f a (d ∷ ds) = ap suc (entries-length (f + row_count d) (a + length (layout d)) ds)

pub entries-append : (f a : ℕ) (ds es : List Description)
    → entries_from f a (ds ++ es) ≡ entries_from f a ds ++ entries_from (f + total_rows ds) (a + length (joined ds)) es
unfolding entries_from total_rows joined
entries-append f a [] es = rw (add-zero, add-zero)
entries-append f a (d ∷ ds) es =
    let e : f + (row_count d + total_rows ds) ≡ f + row_count d + total_rows ds = omega arith in
    let g : a + length (layout d ++ joined ds) ≡ a + length (layout d) + length (joined ds) = omega (arith, length-append (layout d) (joined ds)) in
    rw (e, g) (ap (λ (t : List Entry). record { first = f; at = a; rows = row_count d } ∷ t) (entries-append (f + row_count d) (a + length (layout d)) ds es))

one-joined : (ds : List Description) (d : Description) → length (joined (ds ++ (d ∷ []))) ≡ length (joined ds) + length (layout d)
unfolding joined
one-joined ds d = rw (joined-append ds (d ∷ []), append-nil (layout d)) (length-append (joined ds) (layout d))

pub entries-hold : EntriesHold
unfolding entries_from
entries-hold = record {
  one-a-run = entries-length 0 0;
  sums = λ before behind d.
      rw (total-snoc before d, one-joined before d) (rw (zero-add, zero-add) at (entries-append 0 0 before (d ∷ behind)));
}
