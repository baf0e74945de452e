-- A call leaves the rest of the rows to the calls after it: so by induction over the sizes their rows joined are the stream's, and the
-- first call without rows gives its answer. Assumes nothing.
use mathlib.Core.Path.{◌≡◌, refl, sym, ap, ◌∙◌}
use mathlib.Core.Logic.{◌↔◌}
use Prim.Native.Nat.{ℕ, ◌+◌, ◌<◌, ◌≤◌}
use native.Mathlib.Omega.{arith}
use mathlib.Core.Bool.{Bool, true, false}
use mathlib.Core.List.{List, [], ◌∷◌, ◌++◌}
use lib.ListN.{length, take-append-drop}
use lib.Seq.{take-add, take-nil}
use lib.Dec.{ltb}
use lib.IntN.{ℤ}
use borrow.Author.Tests.{ltb-false, le-ltb, lt-ltb}
use Rattle.format.specs.declared.Refusal.{Refusal}
use Rattle.format.specs.Answers.{LastRun, Stream, refusing, broke_at}
use Rattle.std.specs.Prelude.{Ok, Err}
use Rattle.format.specs.Digits.{AllBelow, sum}
use Rattle.format.specs.Fields.{pick}
use Rattle.format.specs.Promises.{stream_answer}
use Rattle.format.specs.Runs.{Description}
use Rattle.format.specs.Streams.{Reading, whole, broken, runs_of, total_rows}
use Rattle.format.proofs.Tests.{never}
use Rattle.batches.specs.Batches.{Position, RowBatch, BatchOutcome, gives, ended, refuses, first_rows, empty_of}
use Rattle.batches.specs.Batches.{reading_at, batch}
use Rattle.batches.specs.BatchTheorems.{Series, following, series, Stopped}
use Rattle.batches.specs.BatchTheorems.{rows_at, SeriesHolds, AnySizes}
use Rattle.batches.proofs.NextPosition.{onward}
use Rattle.batches.proofs.BatchCalls.{without, Called, no_row, some-rows, called, from-long, from-none}

-- ---- ANY SIZES

module _ (signed : Bool) (bs : List ℕ) (h : AllBelow 256 bs) where
  module _ (p : Position) (n : ℕ) (ns : List ℕ) where
    abbrev A : List ℤ
    A = rows_at signed bs p

    stop-holds : total_rows (runs_of (reading_at bs p)) ≤ p.skip → (b : BatchOutcome) → b ≡ empty_of p (reading_at bs p) → Stopped b
        → SeriesHolds signed bs p (n ∷ ns) (record { rows = []; last = b })
    stop-holds l b e t =
        let z : A ≡ [] = from-none signed bs p l in
        record { rows = rw (z, take-nil (n + sum ns)); all-rows = λ u. sym z; answer = λ u. e; stops = λ u v. t }

    -- a call that gives no batch is the last
    none-holds : total_rows (runs_of (reading_at bs p)) ≤ p.skip → (f : Position → Series)
        → SeriesHolds signed bs p (n ∷ ns) (following (empty_of p (reading_at bs p)) f)
    none-holds l f =
        without (λ b. b ≡ empty_of p (reading_at bs p) → SeriesHolds signed bs p (n ∷ ns) (following b f)) (λ e. stop-holds l ended e tt)
        (λ r e. stop-holds l (refuses r) e tt) p (reading_at bs p) refl

    abbrev g : RowBatch
    g = first_rows signed n p (reading_at bs p)

    -- and one that gives a batch is followed
    some_holds : p.skip < total_rows (runs_of (reading_at bs p)) → (s : Series) → SeriesHolds signed bs g.next ns s
        → SeriesHolds signed bs p (n ∷ ns) (record { rows = g.rows ++ s.rows; last = s.last })
    some_holds l s w =
        let o = onward bs h signed p n (omega arith) in
        record {
          rows = rw (w.rows, o.rows) (sym (take-add n (sum ns) A));
          all-rows = λ u. rw (w.all-rows u, o.rows) (take-append-drop n A);
          answer = λ u. w.answer u ∙ o.empty;
          stops = λ a v. w.stops a.1 (omega (arith, a.0, v, from-long signed bs p, from-long signed bs g.next, o.left));
        }

  pub series-hold : (ns : List ℕ) (p : Position) → SeriesHolds signed bs p ns (series signed bs p ns)
  unfolding series
  series-hold [] p = record { rows = refl; all-rows = λ u. absurd u; answer = λ u. absurd u; stops = λ u v. absurd (omega (arith, v)) }
  series-hold (n ∷ ns) p = go (called signed bs p n) (series-hold ns)
    where
      go : {b : BatchOutcome} → Called signed bs p n b → ((q : Position) → SeriesHolds signed bs q ns (series signed bs q ns))
          → SeriesHolds signed bs p (n ∷ ns) (following b λ q. series signed bs q ns)
      go (no_row l) ih = none-holds p n ns l (λ q. series signed bs q ns)
      go (some-rows l) ih = some_holds p n ns l (series signed bs (g p n ns).next ns) (ih (g p n ns).next)

  -- ---- the answer of a position without rows
  ends : (p : Position) (x : Reading) → (empty_of p x ≡ ended) ↔ ((ds : List Description) × (x ≡ whole ds) × (p.skip ≤ total_rows ds))
  ends p (whole ds) = (
    λ e. (ds, refl, go (ltb (total_rows ds) p.skip) refl e),
    λ (cs, e, l). rw (le-ltb (total_rows ds) p.skip (rw (sym (same cs e)) at l)),
  )
    where
      same : (cs : List Description) → whole ds ≡ whole cs → ds ≡ cs
      same cs e = cc

      go : (t : Bool) → ltb (total_rows ds) p.skip ≡ t → pick t (refuses (refusing 16 0)) ended ≡ ended → p.skip ≤ total_rows ds
      go true e f = never (cc)
      go false e f = ltb-false (total_rows ds) p.skip e
  ends p (broken ds r rest) = (
    λ e. never (cc),
    λ (cs, e, l). never (cc),
  )

no-row-so : (p : Position) (x : Reading) (ds : List Description) → x ≡ whole ds → total_rows ds < p.skip
    → empty_of p x ≡ refuses (refusing 16 0)
no-row-so p x ds e l = ap (empty_of p) e ∙ rw (lt-ltb (total_rows ds) p.skip l)

own-refusal-so : (p : Position) (x : Reading) (f : Refusal) (rows bytes : ℕ) (last : LastRun)
    → stream_answer p.run x ≡ broke_at f rows bytes last → empty_of p x ≡ refuses f
own-refusal-so p (whole ds) f rows bytes last e = never (cc)
own-refusal-so p (broken ds r rest) f rows bytes last e = ap (λ s. refuses (by_of s)) e
  where
    by_of : Stream → Refusal
    by_of (Ok c) = f
    by_of (Err s) = s.by

-- a batch is none of the answers without rows
empty-exactly : (signed : Bool) (bs : List ℕ) (p : Position) (n : ℕ)
    → (batch signed n bs p ≡ empty_of p (reading_at bs p)) ↔ (rows_at signed bs p ≡ [])
empty-exactly signed bs p n = go (called signed bs p n)
  where
    go : {b : BatchOutcome} → Called signed bs p n b → (b ≡ empty_of p (reading_at bs p)) ↔ (rows_at signed bs p ≡ [])
    go (no_row l) = (λ e. from-none signed bs p l, λ z. refl)
    go (some-rows l) = (
      λ e. absurd (without (λ b. gives (first_rows signed n p (reading_at bs p)) ≡ b → ⊥) not-ended not-refused p (reading_at bs p) e),
      λ z. absurd (omega (arith, from-long signed bs p, ap length z)),
    )
      where
        not-ended : gives (first_rows signed n p (reading_at bs p)) ≡ ended → ⊥
        not-ended e = never (cc)

        not-refused : (f : Refusal) → gives (first_rows signed n p (reading_at bs p)) ≡ refuses f → ⊥
        not-refused f e = never (cc)

pub any-sizes : AnySizes
any-sizes signed bs p h = (
  λ ns. series-hold signed bs h ns p,
  record {
    exactly = empty-exactly signed bs p;
    end-exactly = ends signed bs h p (reading_at bs p);
    no-such-row = no-row-so p (reading_at bs p);
    own-refusal = own-refusal-so p (reading_at bs p);
  },
)
