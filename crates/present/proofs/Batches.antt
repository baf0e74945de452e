-- The rows used up by the first flags are as many as these flags stand for, so a column that is cut between two flags, with its rows cut
-- after those, spreads to the two parts of the whole. Assumes nothing.
use mathlib.Core.Path.{◌≡◌, refl, sym, ap, ◌∙◌}
use Prim.Native.Nat.{ℕ, ◌+◌}
use native.Mathlib.Omega.{arith}
use mathlib.Core.Bool.{Bool, true, false}
use mathlib.Core.List.{List, [], ◌∷◌, ◌++◌, append_assoc}
use lib.ListN.{length, take, drop, get_or, length-append, length-drop, take-append-drop}
use lib.Seq.{take_at, drop_at, drop-drop, length-take-le}
use lib.IntN.{ℤ}
use Rattle.format.specs.Fields.{pick}
use Rattle.present.specs.Present.{is_there, present, spread}
use Rattle.present.specs.Laws.{LinedUp, rank, AllBatches}
use Rattle.present.proofs.Columns.{count-append, count_cut, spread-length}
use Rattle.present.proofs.Calls.{column-stands}

spread-append : (fill : ℤ) (f g : List ℕ) (r s : List ℤ) → LinedUp f r
    → spread fill (f ++ g) (r ++ s) ≡ spread fill f r ++ spread fill g s
unfolding spread present
spread-append fill [] g [] s e = refl
spread-append fill [] g (z ∷ r) s e = absurd (omega arith)
spread-append fill (x ∷ f) g r s e = go (is_there x) r e (λ r l. spread-append fill f g r s l)
  where
    go : (t : Bool) (r : List ℤ) → pick t 1 0 + present f ≡ length r
        → ((r : List ℤ) → LinedUp f r → spread fill (f ++ g) (r ++ s) ≡ spread fill f r ++ spread fill g s)
        → pick t (get_or (r ++ s) 0 fill) fill ∷ spread fill (f ++ g) (drop (pick t 1 0) (r ++ s))
        ≡ pick t (get_or r 0 fill) fill ∷ (spread fill f (drop (pick t 1 0) r) ++ spread fill g s)
    go true [] e more = absurd (omega arith)
    go true (z ∷ r) e more = ap (λ (l : List ℤ). z ∷ l) (more r (omega arith))
    go false r e more = ap (λ (l : List ℤ). fill ∷ l) (more r (omega arith))

joined-lined : (f g : List ℕ) (r s : List ℤ) → LinedUp f r → LinedUp g s → LinedUp (f ++ g) (r ++ s)
joined-lined f g r s p q = rw (count-append f g, length-append r s) (omega arith)

module _ (n : ℕ) (flags : List ℕ) (rows : List ℤ) (e : LinedUp flags rows) where
  first-lined : LinedUp (take n flags) (take (rank flags n) rows)
  first-lined = sym (length-take-le (rank flags n) rows (omega (arith, count_cut n flags)))

  rest-lined : LinedUp (drop n flags) (drop (rank flags n) rows)
  rest-lined = rw (length-drop (rank flags n) rows) (omega (arith, count_cut n flags))

pub all-batches : AllBatches
all-batches fill = record {
  lined = joined-lined;
  joined = λ f g r s p. spread-append fill f g r s p;
  cut-first = first-lined;
  cut-rest = rest-lined;
  cut = λ n flags rows e.
      ap (λ (l : List ℕ). spread fill l rows) (sym (take-append-drop n flags))
      ∙ ap (λ (l : List ℤ). spread fill (take n flags ++ drop n flags) l) (sym (take-append-drop (rank flags n) rows))
      ∙ spread-append fill (take n flags) (drop n flags) (take (rank flags n) rows) (drop (rank flags n) rows) (first-lined n flags rows e);
  calls = λ f g r s out one two whole a b c p q h x y z.
      let first = spread fill f r in
      let after = drop (length f) out in
      let e : one ≡ first ++ after = column-stands f r fill out one a x p (omega arith) in
      let front : take (length f) one ≡ first = rw e (take_at first after (length f) (spread-length fill f r)) in
      let d : drop (length f) one ≡ after = rw e (drop_at first after (length f) (spread-length fill f r)) in
      let second = column-stands g s fill after two b (rw d at y) q (rw length-drop (omega arith)) in
      column-stands (f ++ g) (r ++ s) fill out whole c z (joined-lined f g r s p q) (rw length-append (omega arith))
      ∙ rw (front, second, spread-append fill f g r s p, length-append f g, drop-drop, append_assoc);
}
