-- A kept group ends at the one place where the next begins, so there are rows enough and they are its own; then the groups' rows and
-- verdicts are found one after the other by how many stand before them. Assumes nothing.
use mathlib.Core.Path.{◌≡◌, refl, sym, ap, ◌∙◌}
use Prim.Native.Nat.{ℕ, ◌+◌, ◌<◌}
use native.Mathlib.Omega.{arith}
use native.Mathlib.Nat.{min-eq_left}
use mathlib.Core.Bool.{Bool, true, false}
use mathlib.Core.List.{List, [], ◌∷◌, ◌++◌}
use lib.ListN.{length, take, drop, get_or, replicate, length-append, length-take, length-replicate}
use lib.Seq.{take_at, drop-append-add}
use lib.Dec.{T, eqb, T_not}
use lib.IntN.{ℤ}
use borrow.Author.Tests.{eq-eqb, eqb-true}
use Rattle.format.specs.Fields.{pick}
use Rattle.format.proofs.Tests.{T_true, is_false}
use Rattle.batches.specs.Batches.{Position, RowBatch, BatchOutcome, gives, ended, refuses, rows_left, reading_at, batch}
use Rattle.batches.proofs.BatchCalls.{from-long}
use Rattle.rescue.specs.Rescue.{PlainPosition, at, nowhere, made_plain, meets, Group, group, beginning, after_rows, end_of, kept}
use Rattle.rescue.specs.Rescue.{verdict, own_rows, group_rows, rescued_rows, verdicts, sum}
use Rattle.rescue.specs.RescueTheorems.{counts, EveryGroup, EveryList}
use Rattle.rescue.proofs.PlainPositions.{plain-if, plain-inv}
use Rattle.rescue.proofs.GroupEnds.{Met, met, meets-same, end_none, after_all, after_is}

true-T : (b : Bool) → b ≡ true → T b
true-T b e = rw e tt

-- ---- ONE GROUP

module _ (bs : List ℕ) (g : Group) (next : Position) where
  -- the end that it meets
  pub kept-met : T (kept bs g next) → Met (end_of bs g) (made_plain bs next)
  unfolding kept
  kept-met t = met (end_of bs g) (made_plain bs next) t

  pub met-kept : (q : Position) → end_of bs g ≡ at q → made_plain bs next ≡ at q → T (kept bs g next)
  unfolding kept
  met-kept q e f = true-T (meets (end_of bs g) (made_plain bs next)) (rw (e, f) (meets-same q))

  kept-none : g.count ≡ 0 → kept bs g next ≡ meets (made_plain bs g.from) (made_plain bs next)
  unfolding kept
  kept-none z =
      ap (λ (a : PlainPosition). meets a (made_plain bs next))
      (ap (λ (k : ℕ). end_of bs (group g.from k)) z ∙ end_none bs g.from)

  module _ (signed : Bool) where
    -- by the batch that a call gives
    abbrev Gave : Type 0
    Gave = (b : RowBatch) × (batch signed g.count bs g.from ≡ gives b) × (length b.rows ≡ g.count)
        × (made_plain bs next ≡ at b.next)

    kept-gave : 0 < g.count → T (kept bs g next) → Gave
    kept-gave h t =
        let o = kept-met t in
        by (batch signed g.count bs g.from) refl (after_is signed bs g.from g.count h ∙ o.first) o.second
      where
        by : {q : Position} (b : BatchOutcome) → batch signed g.count bs g.from ≡ b → after_all g.count b ≡ at q
            → made_plain bs next ≡ at q → Gave
        by {q} (gives b) e k f = all (eqb (length b.rows) g.count) refl k
          where
            all : (x : Bool) → eqb (length b.rows) g.count ≡ x → pick x (at b.next) nowhere ≡ at q → Gave
            all true l k = (b, e, eqb-true (length b.rows) g.count l, f ∙ sym k)
            all false l k = let z : ◌≡◌ {A = ℕ} 0 1 = cc in absurd (omega arith)
        by ended e k f = let z : ◌≡◌ {A = ℕ} 0 1 = cc in absurd (omega arith)
        by (refuses r) e k f = let z : ◌≡◌ {A = ℕ} 0 1 = cc in absurd (omega arith)

    gave_kept : 0 < g.count → Gave → T (kept bs g next)
    gave_kept h (b, e, l, f) =
        let k : after_all g.count (gives b) ≡ at b.next = rw (eq-eqb (length b.rows) g.count l) in
        met-kept b.next (sym (after_is signed bs g.from g.count h) ∙ ap (after_all g.count) e ∙ k) f

    module _ (fill : ℤ) where
      pub read-so : T (kept bs g next) → group_rows signed fill bs g next ≡ own_rows signed bs g
      unfolding group_rows
      read-so t = rw (T_true (kept bs g next) t)

      pub fill-so : kept bs g next ≡ false → group_rows signed fill bs g next ≡ replicate g.count fill
      unfolding group_rows
      fill-so e = rw e

      pub rows-many : length (group_rows signed fill bs g next) ≡ g.count
      rows-many = go (kept bs g next) refl
        where
          go : (b : Bool) → kept bs g next ≡ b → length (group_rows signed fill bs g next) ≡ g.count
          go true e =
              let t = true-T (kept bs g next) e in
              let (l, q) = plain-inv bs (after_rows g) (kept-met t).first in
              ap length (read-so t) ∙ length-take g.count (rows_left signed g.from (reading_at bs g.from))
              ∙ min-eq_left (omega (arith, l, from-long signed bs g.from))
          go false e = ap length (fill-so e) ∙ length-replicate g.count fill

pub every-group : EveryGroup
every-group signed fill bs g next = record {
  exactly = (
    λ t.
        let o = kept-met bs g next t in
        let (l, e) = plain-inv bs (after_rows g) o.first in
        (l, o.second ∙ ap at (sym e)),
    λ (l, e). met-kept bs g next _ (plain-if bs (after_rows g) l) e,
  );
  by-batch = λ h. (kept-gave bs g next signed h, gave_kept bs g next signed h);
  of-no-rows = kept-none bs g next;
  as_read = read-so bs g next signed fill;
  as-fill = λ t. fill-so bs g next signed fill (is_false (kept bs g next) (λ k. T_not (kept bs g next) t k));
  many = rows-many bs g next signed fill;
}

-- ---- ALL GROUPS

module _ (signed : Bool) (fill : ℤ) (bs : List ℕ) where
  abbrev rows : List Group → List ℤ
  rows gs = rescued_rows signed fill bs gs

  all-many : (gs : List Group) → length (rows gs) ≡ sum (counts gs)
  unfolding rescued_rows sum
  all-many [] = refl
  all-many (g ∷ gs) =
      let next = beginning (length bs) gs in
      length-append (group_rows signed fill bs g next) (rows gs)
      ∙ omega (arith, all-many gs, rows-many bs g next signed fill)

  marks-many : (gs : List Group) → length (verdicts bs gs) ≡ length gs
  unfolding verdicts
  marks-many [] = refl
  marks-many (g ∷ gs) = omega (arith, marks-many gs)

  rows_at : (before later : List Group) (g : Group)
      → take g.count (drop (sum (counts before)) (rows (before ++ (g ∷ later))))
      ≡ group_rows signed fill bs g (beginning (length bs) later)
  unfolding rescued_rows sum
  rows_at [] later g =
      let next = beginning (length bs) later in
      take_at (group_rows signed fill bs g next) (rows later) g.count (rows-many bs g next signed fill)
  rows_at (h ∷ before) later g =
      let next = beginning (length bs) (before ++ (g ∷ later)) in
      let piece = group_rows signed fill bs h next in
      let e : h.count + sum (counts before) ≡ length piece + sum (counts before) = omega (arith, rows-many bs h next signed fill) in
      rw (e, drop-append-add piece (rows (before ++ (g ∷ later))) (sum (counts before))) (rows_at before later g)

  mark-at : (before later : List Group) (g : Group)
      → get_or (verdicts bs (before ++ (g ∷ later))) (length before) 0 ≡ verdict (kept bs g (beginning (length bs) later))
  unfolding verdicts
  mark-at [] later g = refl
  mark-at (h ∷ before) later g = mark-at before later g

pub every-list : EveryList
every-list signed fill bs gs = record {
  many = all-many signed fill bs gs;
  marks = marks-many signed fill bs gs;
  rows = λ before later g e. rw e (rows_at signed fill bs before later g);
  mark = λ before later g e. rw e (mark-at signed fill bs before later g);
}
