-- A group's end and rows depend on its position made plain alone, so they may be read from there; and they are what a call of batches with
-- as many places gives. Assumes nothing.
use mathlib.Core.Path.{◌≡◌, refl, sym, ap, ◌∙◌}
use Prim.Native.Nat.{ℕ, ◌+◌, ◌<◌, ◌≤◌, min}
use native.Mathlib.Omega.{arith}
use native.Mathlib.Decide.{dec_le}
use native.Mathlib.Nat.{min-eq_left}
use mathlib.Core.Bool.{Bool, true}
use mathlib.Core.List.{List, []}
use lib.ListN.{length, take, length-take}
use lib.Seq.{take-nil}
use lib.Dec.{T, eqb, eqb→eq}
use borrow.Author.Tests.{eq-eqb, ne_eqb}
use lib.IntN.{ℤ}
use Rattle.format.specs.Digits.{AllBelow}
use Rattle.format.specs.Fields.{pick}
use Rattle.format.specs.Streams.{Reading, runs_of, total_rows}
use Rattle.format.proofs.Tests.{and-e}
use Rattle.batches.specs.Batches.{Position, BatchOutcome, gives, ended, refuses, position_of, rows_left, count_left, reading_at, batch}
use Rattle.batches.proofs.BatchCalls.{without, Called, no_row, some-rows, called, from-long, from-none}
use Rattle.rescue.specs.Rescue.{position, PlainPosition, at, nowhere, made_plain, meets, group, after_rows, end_of, own_rows}
use Rattle.rescue.proofs.PlainPositions.{plain-if, plain-not, plain-inv, nowhere-inv, SameRows, same_rows}

-- ---- two plain positions that are the same

pub meets-same : (p : Position) → meets (at p) (at p) ≡ true
meets-same p = rw (eq-eqb p.run p.run refl, eq-eqb p.skip p.skip refl)

pub record Met (a b : PlainPosition) : Type 0 where
  pub place : Position
  pub first : a ≡ at place
  pub second : b ≡ at place

pub met : (a b : PlainPosition) → T (meets a b) → Met a b
met (at p) (at q) t =
    let (e, f) = and-e (eqb p.run q.run) (eqb p.skip q.skip) t in
    let r : q.run ≡ p.run = sym (eqb→eq p.run q.run e) in
    let s : q.skip ≡ p.skip = sym (eqb→eq p.skip q.skip f) in
    let g : at q ≡ at p = ap (λ (k : ℕ). at (position k q.skip)) r ∙ ap (λ (k : ℕ). at (position p.run k)) s in
    record { place = p; first = refl; second = g }
met (at p) nowhere t = absurd t
met nowhere b t = absurd t

-- ---- from the position made plain

module _ (bs : List ℕ) (p : Position) (n : ℕ) where
  pub end-from : {q : Position} → AllBelow 256 bs → made_plain bs p ≡ at q → end_of bs (group p n) ≡ end_of bs (group q n)
  end-from {q} h e = go (dec_le (p.skip + n) (total_rows (runs_of (reading_at bs p))))
    where
      v : SameRows bs true p q
      v = same_rows bs true p h e

      l : p.skip ≤ total_rows (runs_of (reading_at bs p))
      l = (plain-inv bs p e).0

      go : Dec (p.skip + n ≤ total_rows (runs_of (reading_at bs p))) → end_of bs (group p n) ≡ end_of bs (group q n)
      go (yes g) =
          plain-if bs (after_rows (group p n)) g ∙ ap at (sym (v.after n))
          ∙ sym (plain-if bs (after_rows (group q n)) (omega (arith, v.left, v.within, l)))
      go (no g) =
          plain-not bs (after_rows (group p n)) (omega arith)
          ∙ sym (plain-not bs (after_rows (group q n)) (omega (arith, v.left, v.within, l)))

  pub end-nowhere : made_plain bs p ≡ nowhere → end_of bs (group p n) ≡ nowhere
  end-nowhere e = plain-not bs (after_rows (group p n)) (omega (arith, nowhere-inv bs p e))

  pub rows-from : {q : Position} (signed : Bool) → AllBelow 256 bs → made_plain bs p ≡ at q
      → own_rows signed bs (group p n) ≡ own_rows signed bs (group q n)
  rows-from signed h e = ap (take n) (sym (same_rows bs signed p h e).rows)

-- ---- no rows

pub end_none : (bs : List ℕ) (p : Position) → end_of bs (group p 0) ≡ made_plain bs p
end_none bs p = let e : p.skip + 0 ≡ p.skip = omega arith in ap (λ (k : ℕ). made_plain bs (position p.run k)) e

-- ---- some, by a call: its rows, and its next position if they are all

abbrev pub rows_in : BatchOutcome → List ℤ
rows_in (gives b) = b.rows
rows_in ended = []
rows_in (refuses f) = []

abbrev pub after_all : ℕ → BatchOutcome → PlainPosition
after_all n (gives b) = pick (eqb (length b.rows) n) (at b.next) nowhere
after_all n ended = nowhere
after_all n (refuses f) = nowhere

module _ (signed : Bool) (bs : List ℕ) (p : Position) (n : ℕ) where
  abbrev m : Reading
  m = reading_at bs p

  abbrev last : Position
  last = after_rows (group p n)

  pub rows_in_lem : rows_in (batch signed n bs p) ≡ own_rows signed bs (group p n)
  rows_in_lem = go (called signed bs p n)
    where
      go : {b : BatchOutcome} → Called signed bs p n b → rows_in b ≡ take n (rows_left signed p m)
      go (no_row l) =
          let e : [] ≡ take n (rows_left signed p m) = rw (from-none signed bs p l) (sym (take-nil n)) in
          without (λ b. rows_in b ≡ take n (rows_left signed p m)) e (λ f. e) p m
      go (some-rows l) = refl

  pub after_is : 0 < n → after_all n (batch signed n bs p) ≡ end_of bs (group p n)
  after_is h = go (called signed bs p n)
    where
      long : length (take n (rows_left signed p m)) ≡ min n (count_left p m)
      long = length-take n (rows_left signed p m) ∙ ap (min n) (from-long signed bs p)

      all : p.skip < total_rows (runs_of m) → Dec (p.skip + n ≤ total_rows (runs_of m))
          → pick (eqb (length (take n (rows_left signed p m))) n)
          (at (position_of p.run (p.skip + min n (count_left p m)) (runs_of m))) nowhere
          ≡ made_plain bs last
      all l (yes g) =
          let e : min n (count_left p m) ≡ n = min-eq_left (omega arith) in
          rw (eq-eqb (length (take n (rows_left signed p m))) n (long ∙ e), e) (sym (plain-if bs last g))
      all l (no g) =
          rw (ne_eqb (length (take n (rows_left signed p m))) n (λ e. omega (arith, long))) (sym (plain-not bs last (omega arith)))

      go : {b : BatchOutcome} → Called signed bs p n b → after_all n b ≡ made_plain bs last
      go (no_row l) =
          let e : nowhere ≡ made_plain bs last = sym (plain-not bs last (omega arith)) in
          without (λ b. after_all n b ≡ made_plain bs last) e (λ f. e) p m
      go (some-rows l) = all l (dec_le (p.skip + n) (total_rows (runs_of m)))
