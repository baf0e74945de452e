-- What the code reads from a plain position is a call of batches, whose end and rows are the group's; so the group is kept exactly if that
-- end is the next position made plain, and filled otherwise. Assumes nothing.
use mathlib.Core.Path.{◌≡◌, refl, sym, ap, ◌∙◌}
use Prim.Native.Nat.{ℕ, ◌<◌, ◌≤◌}
use native.Mathlib.Omega.{arith}
use mathlib.Core.Bool.{Bool, true, false}
use mathlib.Core.List.{List, [], ◌∷◌, ◌++◌, append-nil}
use lib.ListN.{length, take, drop, replicate, length-append, length-drop, length-take, drop_of_length-le}
use lib.Dec.{eqb}
use lib.IntN.{ℤ}
use borrow.Author.Tests.{eqb-true}
use Rattle.format.specs.Digits.{AllBelow}
use Rattle.format.specs.Fields.{pick}
use Rattle.batches.specs.Batches.{Position, BatchOutcome, gives, ended, refuses, rows_left, reading_at, batch}
use Rattle.batches.specs.BatchPromise.{Batch, position_in, batch_answer, places_after, RowsRead}
use Rattle.batches.specs.declared.RowPosition.{RowPosition}
use Rattle.rescue.specs.Rescue.{PlainPosition, at, nowhere, made_plain, meets, group, end_of, kept, own_rows, group_rows}
use Rattle.rescue.specs.RescueSteps.{row_position, plain_in, GroupRead, GroupRescued}
use Rattle.std.specs.Prelude.{Option, Some, None, Ok, Err}
use Rattle.rescue.proofs.GroupEnds.{end-from, end-nowhere, rows-from, end_none, rows_in, after_all, rows_in_lem, after_is}

none : {A : Type 0} (l : List A) → length l ≡ 0 → l ≡ []
none [] e = refl
none (x ∷ l) e = absurd (omega arith)

-- ---- plain positions in the code's words

plain_at : (a : PlainPosition) (p : RowPosition) → Some p ≡ plain_in a → a ≡ at (position_in p)
plain_at (at q) p e = let f : p ≡ row_position q.run q.skip = cc in rw f
plain_at nowhere p e = let z : ◌≡◌ {A = ℕ} 0 1 = cc in absurd (omega arith)

plain-nowhere : (a : PlainPosition) → None ≡ plain_in a → a ≡ nowhere
plain-nowhere (at q) e = let z : ◌≡◌ {A = ℕ} 0 1 = cc in absurd (omega arith)
plain-nowhere nowhere e = refl

meets-nowhere : (a : PlainPosition) → meets a nowhere ≡ false
meets-nowhere (at p) = refl
meets-nowhere nowhere = refl

-- ---- a group is read from a plain position

module _ (s : List ℕ) (from to : RowPosition) (signed : Bool) (out : List ℤ) (h : AllBelow 256 s) where
  abbrev n : ℕ
  n = length out

  abbrev said : BatchOutcome
  said = batch signed n s (position_in from)

  -- by where the rows end
  by_end : (out' : List ℤ) (r : Bool) → length out' ≡ n
      → ((p : Position) → made_plain s p ≡ at (position_in from) → r ≡ meets (end_of s (group p n)) (at (position_in to)))
      → ((p : Position) → made_plain s p ≡ at (position_in from) → r ≡ true → out' ≡ own_rows signed s (group p n))
      → GroupRead s (Some from) (Some to) signed out out' r
  unfolding kept
  by_end out' r l ends rows = record {
    long = l;
    keeps = λ p next a b.
        ends p (plain_at (made_plain s p) from a) ∙ ap (meets (end_of s (group p n))) (sym (plain_at (made_plain s next) to b));
    rows = λ p a t. rows p (plain_at (made_plain s p) from a) t;
  }

  -- into no places
  pub read_none : n ≡ 0 → (r : Bool) → r ≡ meets (at (position_in from)) (at (position_in to))
      → GroupRead s (Some from) (Some to) signed out out r
  read_none z r e = by_end out r refl (λ p f. e ∙ ap (λ (a : PlainPosition). meets a (at (position_in to))) (sym (ends p f)))
      (λ p f t. none out z ∙ sym (ap (λ (k : ℕ). take k (rows_left signed p (reading_at s p))) z))
    where
      ends : (p : Position) → made_plain s p ≡ at (position_in from) → end_of s (group p n) ≡ at (position_in from)
      ends p f = ap (λ (k : ℕ). end_of s (group p k)) z ∙ end_none s p ∙ f

  -- where the rows of an answer end, if they are all
  abbrev pub end_in : Batch → PlainPosition
  end_in (Ok (Some b)) = pick (eqb b.rows.rows n) (at (position_in b.next)) nowhere
  end_in (Ok None) = nowhere
  end_in (Err f) = nowhere

  end-in : (t : BatchOutcome) → end_in (batch_answer t) ≡ after_all n t
  end-in (gives b) = refl
  end-in ended = refl
  end-in (refuses f) = refl

  few : length (rows_in said) ≤ n
  few =
      let q = position_in from in
      rw (rows_in_lem signed s q n) (omega (arith, length-take n (rows_left signed q (reading_at s q))))

  long : (t : BatchOutcome) → length (rows_in t) ≤ n → length (places_after out t) ≡ n
  long (gives b) l = simp (length-append, length-drop) (omega arith)
  long ended l = refl
  long (refuses f) l = refl

  -- rows that end somewhere are all, and fill the places
  all : (t : BatchOutcome) (b : PlainPosition) → meets (after_all n t) b ≡ true → places_after out t ≡ rows_in t
  all (gives g) b k = full (eqb (length g.rows) n) refl k
    where
      full : (x : Bool) → eqb (length g.rows) n ≡ x → meets (pick x (at g.next) nowhere) b ≡ true
          → g.rows ++ drop (length g.rows) out ≡ g.rows
      full true x k =
          let l : length g.rows ≡ n = eqb-true (length g.rows) n x in
          rw (drop_of_length-le out {i = length g.rows} (omega arith)) (append-nil g.rows)
      full false x k = let z : ◌≡◌ {A = ℕ} 0 1 = cc in absurd (omega arith)
  all ended b k = let z : ◌≡◌ {A = ℕ} 0 1 = cc in absurd (omega arith)
  all (refuses f) b k = let z : ◌≡◌ {A = ℕ} 0 1 = cc in absurd (omega arith)

  -- into some, by what the call answers
  pub read_some : {out' : List ℤ} {a : Batch} → 0 < n → RowsRead s from signed out out' a → (b : Batch) → a ≡ b → (r : Bool)
      → r ≡ meets (end_in b) (at (position_in to)) → GroupRead s (Some from) (Some to) signed out out' r
  read_some {out'} some w b g r e = by_end out' r (ap length w.places ∙ long said few)
      (λ p f. e ∙ ap meets-to (ends-said ∙ after_is signed s (position_in from) n some ∙ sym (end-from s p n h f)))
      (λ p f t. w.places ∙ all said (at (position_in to)) (sym (ap meets-to ends-said) ∙ sym e ∙ t)
      ∙ rows_in_lem signed s (position_in from) n ∙ sym (rows-from s p n signed h f))
    where
      meets-to : PlainPosition → Bool
      meets-to x = meets x (at (position_in to))

      ends-said : end_in b ≡ after_all n said
      ends-said = ap end_in (sym g ∙ w.answer) ∙ end-in said

-- ---- from one plain position to another, or nothing is read

module _ (s : List ℕ) (from to : Option RowPosition) (signed : Bool) (out : List ℤ) where
  pub from-nowhere : from ≡ None → GroupRead s from to signed out out false
  unfolding kept
  from-nowhere e = record {
    long = refl;
    keeps = λ p next a b.
        ap (λ (x : PlainPosition). meets x (made_plain s next))
        (sym (end-nowhere s p (length out) (plain-nowhere (made_plain s p) (sym e ∙ a))));
    rows = λ p a t. let z : ◌≡◌ {A = ℕ} 0 1 = cc in absurd (omega arith);
  }

  pub to-nowhere : to ≡ None → GroupRead s from to signed out out false
  unfolding kept
  to-nowhere e = record {
    long = refl;
    keeps = λ p next a b.
        let end = end_of s (group p (length out)) in
        sym (ap (meets end) (plain-nowhere (made_plain s next) (sym e ∙ b)) ∙ meets-nowhere end);
    rows = λ p a t. let z : ◌≡◌ {A = ℕ} 0 1 = cc in absurd (omega arith);
  }

  pub read_at : {p q : RowPosition} {out' : List ℤ} {r : Bool} → from ≡ Some p → to ≡ Some q
      → GroupRead s (Some p) (Some q) signed out out' r → GroupRead s from to signed out out' r
  read_at e f w = record {
    long = w.long;
    keeps = λ p next a b. w.keeps p next (sym e ∙ a) (sym f ∙ b);
    rows = λ p a t. w.rows p (sym e ∙ a) t;
  }

-- ---- kept, or filled

module _ {s : List ℕ} {from to : Option RowPosition} {signed : Bool} (fill : ℤ) {out out' : List ℤ} {r : Bool}
    (w : GroupRead s from to signed out out' r) where
  pub was-kept : r ≡ true → GroupRescued s from to signed fill out out' true
  unfolding group_rows
  was-kept t = record {
    keeps = λ p next a b. sym t ∙ w.keeps p next a b;
    rows = λ p next a b. rw (sym (w.keeps p next a b) ∙ t) (w.rows p a t);
  }

  pub was-filled : r ≡ false → {out'' : List ℤ} → out'' ≡ replicate (length out') fill → GroupRescued s from to signed fill out out'' false
  unfolding group_rows
  was-filled t e = record {
    keeps = λ p next a b. sym t ∙ w.keeps p next a b;
    rows = λ p next a b. rw (sym (w.keeps p next a b) ∙ t) (e ∙ ap (λ (k : ℕ). replicate k fill) w.long);
  }
