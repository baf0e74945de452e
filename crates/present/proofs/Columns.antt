-- Row i of the column is the row with as many before it as flags before i are not 0; so the rows that are there, picked out again, are the
-- rows that were spread, and no other column has them at these flags. Assumes nothing.
use mathlib.Core.Path.{◌≡◌, refl, sym, ap, ◌∙◌}
use Prim.Native.Nat.{ℕ, zero, suc, ◌+◌, ◌<◌}
use native.Mathlib.Omega.{arith}
use mathlib.Core.Bool.{Bool, true, false}
use mathlib.Core.List.{List, [], ◌∷◌, ◌++◌}
use lib.ListN.{length, take, drop, get_or, take-append-drop}
use lib.Seq.{get_or-drop, ext_get_or}
use lib.IntN.{ℤ}
use Rattle.format.specs.Fields.{pick}
use Rattle.format.proofs.Tests.{T_true, is_false}
use Rattle.present.specs.Present.{is_there, rows_for, present, spread}
use Rattle.present.specs.Laws.{LinedUp, picked, rank, RowIs, ColumnsHold, OneColumn}
use Rattle.present.proofs.SpreadLoop.{count_next, row_at}

-- ---- counting

pub count-append : (f g : List ℕ) → present (f ++ g) ≡ present f + present g
unfolding present
count-append [] g = omega arith
count-append (x ∷ f) g = omega (arith, count-append f g)

pub count_cut : (n : ℕ) (flags : List ℕ) → present flags ≡ rank flags n + present (drop n flags)
count_cut n flags = ap present (sym (take-append-drop n flags)) ∙ count-append (take n flags) (drop n flags)

-- ---- each row

pub spread-length : {A : Type 0} (fill : A) (flags : List ℕ) (rows : List A) → length (spread fill flags rows) ≡ length flags
unfolding spread
spread-length fill [] rows = refl
spread-length fill (f ∷ flags) rows = ap suc (spread-length fill flags (drop (rows_for f) rows))

pub row-at : {A : Type 0} (fill : A) (flags : List ℕ) (rows : List A) (i : ℕ) (d : A) → i < length flags
    → get_or (spread fill flags rows) i d ≡ row_at fill flags rows (rank flags i) i
unfolding spread present
row-at fill [] rows i d h = absurd (omega arith)
row-at fill (f ∷ flags) rows zero d h = refl
row-at fill (f ∷ flags) rows (suc i) d h =
    row-at fill flags (drop (rows_for f) rows) i d (omega arith) ∙ rw (get_or-drop (rows_for f) rows (rank flags i) fill)

module _ (flags : List ℕ) (rows : List ℤ) (fill : ℤ) (i : ℕ) (z : ℤ) where
  row_is : i < length flags → LinedUp flags rows → z ≡ row_at fill flags rows (rank flags i) i → RowIs flags rows fill i z
  row_is h e p = record {
    there = λ t. let s = T_true (is_there (get_or flags i 0)) t in
        (omega (arith, count_cut i flags, rw s at (count_next flags i h)), p ∙ rw s);
    missing = λ n. p ∙ rw (is_false (is_there (get_or flags i 0)) n);
  }

  is_row : RowIs flags rows fill i z → z ≡ row_at fill flags rows (rank flags i) i
  is_row r = go (is_there (get_or flags i 0)) refl
    where
      go : (t : Bool) → is_there (get_or flags i 0) ≡ t → z ≡ pick t (get_or rows (rank flags i) fill) fill
      go true e = (r.there (rw e tt)).1
      go false e = r.missing (λ t. rw e at t)

-- ---- the rows again

pub picked-back : (fill : ℤ) (flags : List ℕ) (rows : List ℤ) → LinedUp flags rows → picked flags (spread fill flags rows) ≡ rows
unfolding picked spread present
picked-back fill [] [] e = refl
picked-back fill [] (z ∷ rows) e = absurd (omega arith)
picked-back fill (f ∷ flags) rows e = go (is_there f) rows e (λ r l. picked-back fill flags r l)
  where
    go : (t : Bool) (rows : List ℤ) → pick t 1 0 + present flags ≡ length rows
        → ((r : List ℤ) → LinedUp flags r → picked flags (spread fill flags r) ≡ r)
        → pick t (pick t (get_or rows 0 fill) fill ∷ picked flags (spread fill flags (drop (pick t 1 0) rows)))
        (picked flags (spread fill flags (drop (pick t 1 0) rows))) ≡ rows
    go true [] e more = absurd (omega arith)
    go true (z ∷ rows) e more = ap (λ (l : List ℤ). z ∷ l) (more rows (omega arith))
    go false rows e more = more rows (omega arith)

pub picked-front : (flags : List ℕ) (column rest : List ℤ) → length column ≡ length flags
    → picked flags (column ++ rest) ≡ picked flags column
unfolding picked
picked-front [] column rest e = refl
picked-front (f ∷ flags) [] rest e = absurd (omega arith)
picked-front (f ∷ flags) (z ∷ column) rest e = rw (picked-front flags column rest (omega arith))

pub columns-hold : ColumnsHold
columns-hold flags rows fill e = record {
  long = spread-length fill flags rows;
  each = λ i d h. row_is flags rows fill i _ h e (row-at fill flags rows i d h);
  back = picked-back fill flags rows e;
}

pub one-column : OneColumn
one-column flags rows fill column e c =
    ext_get_or fill column (spread fill flags rows) (c.long ∙ sym (spread-length fill flags rows))
    (λ i h. let l : i < length flags = omega (arith, c.long) in
    is_row flags rows fill i _ (c.each i fill l) ∙ sym (row-at fill flags rows i fill l))
