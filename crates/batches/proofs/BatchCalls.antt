-- What is read from the position that a batch leaves is what is left, so a second call goes on where the first ended, and both are one call
-- with the places of both. Assumes nothing.
use mathlib.Core.Path.{◌≡◌, refl, sym, ap, ◌∙◌}
use Prim.Native.Nat.{ℕ, ◌+◌, ◌-◌, ◌<◌, ◌≤◌, min}
use native.Mathlib.Omega.{arith}
use native.Mathlib.Nat.{add-zero}
use mathlib.Core.Bool.{Bool, true, false}
use mathlib.Core.List.{List, [], append-nil}
use lib.ListN.{length, length-take, length-drop, drop_of_length-le}
use lib.Seq.{take-add, take-nil}
use lib.Dec.{leb, ltb}
use borrow.Author.Tests.{leb-true, leb-false}
use Rattle.format.specs.Answers.{refusing}
use Rattle.format.specs.Digits.{AllBelow}
use Rattle.format.specs.Fields.{pick}
use Rattle.format.specs.Streams.{Reading, whole, broken, runs_of, total_rows, joined_rows}
use Rattle.format.specs.declared.Refusal.{Refusal}
use Rattle.format.proofs.Rows.{joined-count}
use Rattle.format.proofs.Tests.{never}
use Rattle.batches.specs.Batches.{Position, RowBatch, BatchOutcome, gives, ended, refuses, position_of, rows_left, count_left}
use Rattle.batches.specs.Batches.{first_rows, empty_of, reading_at, batch}
use Rattle.batches.specs.BatchTheorems.{BatchHolds, EveryBatch, joined_to, and_then, TwoCalls}
use Rattle.batches.specs.BatchTheorems.{Determined}
use Rattle.batches.proofs.RowPositions.{before}
use Rattle.batches.proofs.NextPosition.{onward}

-- ---- the answer of a position without rows is no batch

pub without : (P : BatchOutcome → Type 0) → P ended → ((f : Refusal) → P (refuses f)) → (p : Position) (m : Reading) → P (empty_of p m)
without P a b p (whole ds) = go (ltb (total_rows ds) p.skip)
  where
    go : (t : Bool) → P (pick t (refuses (refusing 16 0)) ended)
    go true = b _
    go false = a
without P a b p (broken ds r rest) = b _

-- ---- one call

module _ (signed : Bool) (bs : List ℕ) (p : Position) where
  abbrev m : Reading
  m = reading_at bs p

  pub data Called (n : ℕ) : BatchOutcome → Type 0 where
    no_row : total_rows (runs_of m) ≤ p.skip → Called n (empty_of p m)
    some-rows : p.skip < total_rows (runs_of m) → Called n (gives (first_rows signed n p m))

  pub called : (n : ℕ) → Called n (batch signed n bs p)
  unfolding batch
  called n = go (leb (total_rows (runs_of m)) p.skip) refl
    where
      go : (t : Bool) → leb (total_rows (runs_of m)) p.skip ≡ t → Called n (pick t (empty_of p m) (gives (first_rows signed n p m)))
      go true e = no_row (leb-true _ _ e)
      go false e = some-rows (leb-false _ _ e)

  pub from-long : length (rows_left signed p m) ≡ count_left p m
  from-long = length-drop p.skip (joined_rows signed (runs_of m)) ∙ ap (λ (k : ℕ). k - p.skip) (joined-count signed (runs_of m))

  pub from-none : total_rows (runs_of m) ≤ p.skip → rows_left signed p m ≡ []
  from-none l = drop_of_length-le (joined_rows signed (runs_of m)) {i = p.skip} (omega (arith, joined-count signed (runs_of m)))

-- ---- A BATCH

pub every-batch : EveryBatch
every-batch signed n bs p g h e = go (called signed bs p n) e
  where
    go : {b : BatchOutcome} → Called signed bs p n b → b ≡ gives g → BatchHolds signed n bs p g
    go (no_row l) f = absurd (without (λ b. b ≡ gives g → ⊥) (λ z. not-ended z) (λ r z. not-refused r z) p (reading_at bs p) f)
      where
        not-ended : ended ≡ gives g → ⊥
        not-ended z = never (cc)

        not-refused : (r : Refusal) → refuses r ≡ gives g → ⊥
        not-refused r z = never (cc)
    go (some-rows l) f =
        let w = onward bs h signed p n (omega arith) in
        let y : first_rows signed n p (reading_at bs p) ≡ g = cc in
        rw (sym y) (record {
          rows = refl;
          many = length-take n (rows_left signed p (reading_at bs p)) ∙ ap (min n) (from-long signed bs p);
          left = w.rows;
          plain = w.plain;
        })

-- ---- TWO CALLS

module _ (signed : Bool) (bs : List ℕ) (h : AllBelow 256 bs) (p : Position) (n k : ℕ) where
  abbrev first : RowBatch
  first = first_rows signed n p (reading_at bs p)

  abbrev q : Position
  q = first.next

  -- a second batch follows the first
  pub first_two : p.skip ≤ total_rows (runs_of (reading_at bs p))
      → first_rows signed (n + k) p (reading_at bs p) ≡ before first.rows (first_rows signed k q (reading_at bs q))
  first_two l =
      let w = onward bs h signed p n l in
      let t : ℕ = count_left p (reading_at bs p) in
      let a : p.skip + min n t + min k (t - n) ≡ p.skip + min (n + k) t = omega arith in
      rw (take-add n k (rows_left signed p (reading_at bs p)), w.rows, w.left, w.positions (min k (t - n)), a)

  -- by what the second call gives
  two-more : p.skip < total_rows (runs_of (reading_at bs p)) → {b : BatchOutcome} → Called signed bs q k b
      → gives (first_rows signed (n + k) p (reading_at bs p)) ≡ joined_to first b
  two-more l (some-rows g) = ap gives (first_two (omega arith))
  two-more l (no_row g) =
      let w = onward bs h signed p n (omega arith) in
      let z : count_left q (reading_at bs q) ≡ 0 = omega arith in
      let y : min k 0 ≡ 0 = omega arith in
      let f : position_of q.run (q.skip + min k (count_left q (reading_at bs q))) (runs_of (reading_at bs q)) ≡ q =
      rw (z, y, w.positions 0, add-zero) in
      let e : first_rows signed (n + k) p (reading_at bs p) ≡ first =
      first_two (omega arith) ∙ rw (from-none signed bs q g, take-nil k, append-nil, f) in
      ap gives e ∙ without (λ b. gives first ≡ joined_to first b) refl (λ f. refl) q (reading_at bs q)

pub two-calls : TwoCalls
two-calls signed n k bs p h = go (called signed bs p (n + k)) (called signed bs p n)
  where
    go : {a b : BatchOutcome} → Called signed bs p (n + k) a → Called signed bs p n b → a ≡ and_then b (batch signed k bs)
    go (no_row l) (no_row g) = without (λ b. b ≡ and_then b (batch signed k bs)) refl (λ f. refl) p (reading_at bs p)
    go (some-rows l) (some-rows g) = two-more signed bs h p n k l (called signed bs (first_rows signed n p (reading_at bs p)).next k)
    go (no_row l) (some-rows g) = absurd (omega arith)
    go (some-rows l) (no_row g) = absurd (omega arith)

-- ---- ANY TWO OUTCOMES

pub determined : Determined
determined input p signed out out' out'' r r' a b = (a.answer ∙ sym b.answer, a.places ∙ sym b.places)
