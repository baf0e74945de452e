-- By induction over the groups: the rows from the group's position are the stream's from row k on, so its end is the position of row k and
-- its count, which is the next group's. Assumes nothing.
use mathlib.Core.Path.{◌≡◌, refl, sym, ap, ◌∙◌}
use Prim.Native.Nat.{ℕ, ◌+◌, ◌-◌, ◌*◌, ◌≤◌}
use native.Mathlib.Omega.{arith}
use mathlib.Core.Bool.{Bool}
use mathlib.Core.List.{List, [], ◌∷◌}
use lib.ListN.{length, take, drop, replicate, take-append-drop, drop_of_length-le}
use lib.Seq.{drop-drop}
use lib.Dec.{T}
use lib.IntN.{ℤ}
use Rattle.format.specs.Digits.{AllBelow}
use Rattle.format.specs.Runs.{Description, AllValid, row_count, layout, joined}
use Rattle.format.specs.Streams.{Reading, whole, stream, runs_of, total_rows, joined_rows}
use Rattle.format.proofs.Rows.{joined-count}
use Rattle.format.proofs.Streams.{whole-exactly}
use Rattle.format.proofs.Tests.{T_true}
use Rattle.index.proofs.Entries.{total-cons}
use Rattle.batches.specs.Batches.{Position, position_of, count_left, reading_at}
use Rattle.batches.proofs.RowPositions.{past_first, no_run}
use Rattle.batches.proofs.NextPosition.{joined-long, no_bytes}
use Rattle.rescue.specs.Rescue.{position, at, made_plain, Group, positions, groups, beginning, after_rows, end_of, kept, group_rows}
use Rattle.rescue.specs.Rescue.{rescued_rows, verdicts}
use Rattle.rescue.specs.RescueTheorems.{TrueFrom, TrueRows, WholeKept, WholeCall}
use Rattle.rescue.proofs.PlainPositions.{plain-if, plain-inv, plain_still, plain-twice, SameRows, same_rows}
use Rattle.rescue.proofs.ListedColumns.{groups-long}
use Rattle.rescue.proofs.RescuedGroups.{met-kept, read-so}
use Rattle.rescue.proofs.RescueCalls.{every_call}

-- ---- the position after all rows

end-position : (b : ℕ) (ds : List Description) → position_of b (total_rows ds) ds ≡ position (b + length (joined ds)) 0
end-position b [] = no_run b (total_rows []) ∙ ap (λ (k : ℕ). position k 0) (omega (arith, no_bytes))
end-position b (d ∷ ds) =
    let a : total_rows (d ∷ ds) - row_count d ≡ total_rows ds = omega (arith, total-cons d ds) in
    let y : b + length (layout d) + length (joined ds) ≡ b + length (joined (d ∷ ds)) = omega (arith, joined-long d ds) in
    past_first b (total_rows (d ∷ ds)) d ds (omega (arith, total-cons d ds))
    ∙ ap (λ (k : ℕ). position_of (b + length (layout d)) k ds) a ∙ end-position (b + length (layout d)) ds
    ∙ ap (λ (k : ℕ). position k 0) y

-- ---- the rows of a whole stream

module _ (bs : List ℕ) (ds : List Description) (h : AllBelow 256 bs) (e : stream bs ≡ whole ds) where
  pub laid : AllValid ds × (bs ≡ joined ds)
  unfolding stream
  laid = let (v, q, l) = (whole-exactly (512 * length bs) bs ds h).0 e in (v, q)

  pub within : (k : ℕ) (gs : List Group) → TrueFrom bs ds k gs → k ≤ total_rows ds
  within k [] t = omega arith
  within k (g ∷ gs) (a, t) = omega (arith, within (k + g.count) gs t)

  -- row k of the stream
  pub row-at : (k : ℕ) → k ≤ total_rows ds → made_plain bs (position 0 k) ≡ at (position_of 0 k ds)
  row-at k l = plain-if bs (position 0 k) (rw e l) ∙ ap (λ (m : Reading). at (position_of 0 k (runs_of m))) e

  next-at : (k : ℕ) (gs : List Group) → TrueFrom bs ds k gs → made_plain bs (beginning (length bs) gs) ≡ at (position_of 0 k ds)
  next-at k [] t =
      let z : 0 + length (joined ds) ≡ length bs = omega (arith, ap length laid.1) in
      plain_still bs (length bs) h
      ∙ ap at (sym (ap (λ (j : ℕ). position_of 0 j ds) t ∙ end-position 0 ds ∙ ap (λ (j : ℕ). position j 0) z))
  next-at k (g ∷ gs) (a, t) = a

  -- what is read from a true position is what is read from the stream's beginning with k rows to skip
  module _ (signed : Bool) (k : ℕ) (p : Position) (l : k ≤ total_rows ds) (a : made_plain bs p ≡ at (position_of 0 k ds)) where
    here : SameRows bs signed p (position_of 0 k ds)
    here = same_rows bs signed p h a

    there : SameRows bs signed (position 0 k) (position_of 0 k ds)
    there = same_rows bs signed (position 0 k) h (row-at k l)

    -- the row numbers, from both ends
    pub row_is : (p.skip ≤ total_rows (runs_of (reading_at bs p))) × (count_left p (reading_at bs p) ≡ total_rows ds - k)
    row_is = ((plain-inv bs p a).0, sym here.left ∙ there.left ∙ ap (λ (m : Reading). total_rows (runs_of m) - k) e)

  -- ---- one group

  module _ (signed : Bool) (fill : ℤ) (k : ℕ) (g : Group) (gs : List Group) (a : made_plain bs g.from ≡ at (position_of 0 k ds))
      (t : TrueFrom bs ds (k + g.count) gs) where
    abbrev next : Position
    next = beginning (length bs) gs

    l : k + g.count ≤ total_rows ds
    l = within (k + g.count) gs t

    low : k ≤ total_rows ds
    low = omega (arith, l)

    pub true-end : end_of bs g ≡ at (position_of 0 (k + g.count) ds)
    true-end =
        let (b, f) = row_is signed k g.from low a in
        plain-if bs (after_rows g) (omega (arith, l, b, f))
        ∙ ap at (sym ((here signed k g.from low a).after g.count) ∙ (there signed k g.from low a).after g.count
        ∙ ap (λ (m : Reading). position_of 0 (k + g.count) (runs_of m)) e)

    is-kept : T (kept bs g next)
    is-kept = met-kept bs g next (position_of 0 (k + g.count) ds) true-end (next-at (k + g.count) gs t)

    its-rows : group_rows signed fill bs g next ≡ take g.count (drop k (joined_rows signed ds))
    its-rows = read-so bs g next signed fill is-kept
        ∙ ap (λ (x : List ℤ). take g.count x) (sym (here signed k g.from low a).rows ∙ (there signed k g.from low a).rows
        ∙ ap (λ (m : Reading). drop k (joined_rows signed (runs_of m))) e)

  -- ---- all groups

  all-kept : (signed : Bool) (fill : ℤ) (k : ℕ) (gs : List Group) → TrueFrom bs ds k gs
      → (rescued_rows signed fill bs gs ≡ drop k (joined_rows signed ds)) × (verdicts bs gs ≡ replicate (length gs) 1)
  unfolding rescued_rows verdicts
  all-kept signed fill k [] t = (sym (drop_of_length-le (joined_rows signed ds) {i = k} (omega (arith, joined-count signed ds))), refl)
  all-kept signed fill k (g ∷ gs) (a, t) =
      let (x, y) = all-kept signed fill (k + g.count) gs t in
      let rows = joined_rows signed ds in (
        rw (its-rows signed fill k g gs a t, x, ← (drop-drop g.count k rows)) (take-append-drop g.count (drop k rows)),
        rw (T_true (kept bs g (beginning (length bs) gs)) (is-kept signed fill k g gs a t), y),
      )

pub true-rows : TrueRows
true-rows bs ds k h e l = let r = row-at bs ds h e k l in (plain-twice bs (position 0 k) h r, r)

pub whole-kept : WholeKept
whole-kept signed fill bs ds gs h e t = all-kept bs ds h e signed fill 0 gs t

-- ---- .. AND THE CALL

pub whole-call : WholeCall
whole-call signed fill bs rs ss ns places marks ds h e l r t =
    let (x, y) = whole-kept signed fill bs ds (groups (positions rs ss) ns) h e t in
    let n = groups-long (length bs) rs ss ns (sym l.skips-long) (sym l.counts-long) in
    ((every_call signed fill bs rs ss ns places marks).otherwise _ _).1
    (l, r, sym x, sym (y ∙ ap (λ (k : ℕ). replicate k 1) n))
