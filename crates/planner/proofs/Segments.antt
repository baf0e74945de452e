-- The segments of a proposal, one after another. Assumes nothing.
use mathlib.Core.Path.{◌≡◌, refl, ap, ◌∙◌}
use Prim.Native.Nat.{ℕ, zero, suc, ◌+◌, ◌<◌, ◌≤◌}
use native.Mathlib.Omega.{arith}
use native.Mathlib.Numerals.{add-one}
use mathlib.Core.Bool.{Bool, true, false, ◌&&◌}
use mathlib.Core.List.{List, [], ◌∷◌}
use lib.ListN.{length, drop, get_or, drop_of_length-le}
use lib.Seq.{get_or-drop}
use lib.Dec.{eqb}
use borrow.Author.Tests.{eqb-true}
use Rattle.format.proofs.Tests.{both}
use Rattle.planner.specs.declared.segment.Segment.{Segment}
use Rattle.planner.specs.Check.{Columns, proposal, equal_lengths, segments_from, segments, covers}
use Rattle.planner.specs.Walk.{segment_at}

-- the columns are as long as the first, where the test says so
pub record Equal (c : Columns) : Type 0 where
  pub counts : length c.counts ≡ length c.starts
  pub forms : length c.forms ≡ length c.starts
  pub widths : length c.widths ≡ length c.starts
  pub bases : length c.bases ≡ length c.starts

pub are-equal : (c : Columns) → equal_lengths c ≡ true → Equal c
are-equal c e =
    let n : ℕ = length c.starts in
    let p = both (eqb (length c.counts) n && eqb (length c.forms) n && eqb (length c.widths) n) (eqb (length c.bases) n) e in
    let q = both (eqb (length c.counts) n && eqb (length c.forms) n) (eqb (length c.widths) n) p.0 in
    let r = both (eqb (length c.counts) n) (eqb (length c.forms) n) q.0 in
    record {
      counts = eqb-true (length c.counts) n r.0;
      forms = eqb-true (length c.forms) n r.1;
      widths = eqb-true (length c.widths) n q.1;
      bases = eqb-true (length c.bases) n p.1;
    }

-- one more, and none
segments-from : (k : ℕ) (starts counts forms widths bases : List ℕ) → k < length starts
    → drop k (segments_from starts counts forms widths bases)
    ≡ segment_at (proposal starts counts forms widths bases) k ∷ drop (suc k) (segments_from starts counts forms widths bases)
unfolding segments_from
segments-from k [] counts forms widths bases h = absurd (omega arith)
segments-from zero (x ∷ starts) counts forms widths bases h = refl
segments-from (suc k) (x ∷ starts) counts forms widths bases h =
    let e : (l : List ℕ) → get_or (drop 1 l) k 0 ≡ get_or l (suc k) 0 = λ l. get_or-drop 1 l k 0 ∙ ap (λ (i : ℕ). get_or l i 0) (omega arith) in
    rw (← (e counts), ← (e forms), ← (e widths), ← (e bases))
    (segments-from k starts (drop 1 counts) (drop 1 forms) (drop 1 widths) (drop 1 bases) (omega arith))

pub segment-next : (c : Columns) (k : ℕ) → k < length c.starts → drop k (segments c) ≡ segment_at c k ∷ drop (k + 1) (segments c)
segment-next c k h = rw add-one (segments-from k c.starts c.counts c.forms c.widths c.bases h)

count-from : (starts counts forms widths bases : List ℕ) → length (segments_from starts counts forms widths bases) ≡ length starts
unfolding segments_from
count-from [] counts forms widths bases = refl
count-from (x ∷ starts) counts forms widths bases = ap suc (count-from starts (drop 1 counts) (drop 1 forms) (drop 1 widths) (drop 1 bases))

pub segment-none : (c : Columns) (k : ℕ) → length c.starts ≤ k → drop k (segments c) ≡ []
segment-none c k h = drop_of_length-le (segments c) {i = k} (omega (arith, count-from c.starts c.counts c.forms c.widths c.bases))

-- what covers the rows from a row on begins within them
pub covers-le : (rows at : ℕ) (ss : List Segment) → covers rows at ss ≡ true → at ≤ rows
unfolding covers
covers-le rows at [] e = omega (arith, eqb-true at rows e)
covers-le rows at (s ∷ ss) e =
    let b = both (eqb s.start at) (covers rows (at + s.count) ss) e in
    omega (arith, covers-le rows (at + s.count) ss b.1)

pub covers-over : (rows at : ℕ) (ss : List Segment) → rows < at → covers rows at ss ≡ false
covers-over rows at ss h = go (covers rows at ss) refl
  where
    go : (t : Bool) → covers rows at ss ≡ t → t ≡ false
    go true e = absurd (omega (arith, covers-le rows at ss e))
    go false e = refl
