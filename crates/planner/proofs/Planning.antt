-- The runs of an accepted proposal, laid one behind the other. Assumes nothing.
use mathlib.Core.Path.{◌≡◌}
use Prim.Native.Nat.{ℕ, ◌+◌, ◌-◌, ◌<◌, ◌≤◌}
use native.Mathlib.Omega.{arith}
use mathlib.Core.Bool.{Bool, true}
use mathlib.Core.List.{List, ◌∷◌, ◌++◌}
use lib.ListN.{length, take, drop, length-append, length-drop}
use lib.IntN.{ℤ}
use Rattle.format.specs.Runs.{layout, joined}
use Rattle.planner.specs.declared.segment.Segment.{Segment}
use Rattle.planner.specs.Check.{Columns, segments, covers, all_runs, runs, accepted}
use Rattle.planner.specs.Walk.{segment_at, step_in, Ran, ColumnLaid}
use Rattle.util.proofs.Grow.{rest-is}
use Rattle.planner.proofs.Segments.{segment-next, segment-none}
use Rattle.planner.proofs.Accepting.{tests}
use Rattle.planner.proofs.Growing.{Grown, grown-first, grown-next, grown-sum, grown-end}
use Rattle.planner.proofs.Walks.{Next, next, next-ran}

module _ (signed : Bool) (rows : List ℤ) (c : Columns) (out₀ : List ℕ) where
  abbrev all : List ℕ
  all = joined (runs signed rows (segments c))

  pub record Plan (out : List ℕ) (k row bytes : ℕ) : Type 0 where
    pub few : k ≤ length c.starts
    pub covering : covers (length rows) row (drop k (segments c)) ≡ true
    pub writers : all_runs signed rows (drop k (segments c)) ≡ true
    pub grown : Grown all out₀ out bytes (joined (runs signed rows (drop k (segments c))))

  pub plan-first : accepted signed rows c (length out₀) ≡ true → Plan out₀ 0 0 0
  plan-first e =
      let t = tests signed rows c (length out₀) e in
      record { few = omega arith; covering = t.1; writers = t.2; grown = grown-first all out₀ t.3 }

  module _ (out : List ℕ) (k row bytes : ℕ) (p : Plan out k row bytes) where
    pub plan-end : length c.starts ≤ k → ColumnLaid (runs signed rows (segments c)) out₀ out
    unfolding runs joined
    plan-end h = grown-end (rw (segment-none c k h) at p.grown)

    module _ (h : k < length c.starts) (s : Segment) (e : s ≡ segment_at c k) where
      abbrev ss : List Segment
      ss = drop (k + 1) (segments c)

      left : drop k (segments c) ≡ s ∷ ss
      left = rw e (segment-next c k h)

      pub the-next : Next signed rows row s ss
      the-next = next signed rows row s ss (rw left at p.covering) (rw left at p.writers)

      here : Grown all out₀ out bytes (layout the-next.which ++ joined (runs signed rows ss))
      here = rw (left, the-next.runs-are) at p.grown

      abbrev lent : List ℕ
      lent = take (length out - bytes) (drop bytes out)

      fits : length (layout the-next.which) ≤ length lent
      fits =
          rw (rest-is out bytes)
          (omega (arith, length-drop bytes out, grown-sum here, length-append (layout the-next.which) (joined (runs signed rows ss)), here.room))

      pub plan-next : (part : List ℕ) (n : ℕ) → Ran (step_in signed rows row s (length lent)) lent part n
          → Plan (take bytes out ++ (part ++ drop (length out - bytes) (drop bytes out))) (k + 1) (row + s.count) (bytes + n)
      plan-next part n r =
          let x = next-ran signed rows row s ss the-next lent part n fits r in
          record {
            few = omega arith;
            covering = the-next.covering;
            writers = the-next.writers;
            grown = rw x.0 (grown-next (layout the-next.which) (joined (runs signed rows ss)) part here x.1);
          }
