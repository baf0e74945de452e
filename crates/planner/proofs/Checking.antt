-- The check's walk: the verdict on what is left is the verdict on all. Assumes nothing.
use Rattle.std.specs.Prelude.{Some, None}
use mathlib.Core.Path.{◌≡◌, sym, ◌∙◌}
use Prim.Native.Nat.{ℕ, ◌+◌, ◌-◌, ◌<◌, ◌≤◌}
use native.Mathlib.Omega.{arith}
use mathlib.Core.Bool.{Bool, true, false}
use mathlib.Core.List.{List, ◌∷◌}
use lib.ListN.{length, drop}
use lib.IntN.{ℤ}
use Rattle.writer.specs.Sizes.{size_in}
use Rattle.planner.specs.declared.segment.Segment.{Segment}
use Rattle.planner.specs.Check.{Columns, equal_lengths, segments, any_run, accepted, checked_as}
use Rattle.planner.specs.Walk.{segment_at, step_in}
use Rattle.planner.proofs.Segments.{segment-next, segment-none}
use Rattle.planner.proofs.Walks.{Taken, none, some, verdict, verdict-first, verdict-out, verdict-next, verdict-full, verdict-short, verdict-end}

module _ (signed : Bool) (rows : List ℤ) (c : Columns) (room : ℕ) where
  -- columns of unequal length are no proposal
  pub unequal : equal_lengths c ≡ false → None ≡ checked_as signed rows c room
  unfolding checked_as accepted
  unequal e = rw e

  pub record Along (k row bytes : ℕ) : Type 0 where
    pub few : k ≤ length c.starts
    pub row_in : row ≤ length rows
    pub bytes-in : bytes ≤ room
    pub so_far : checked_as signed rows c room ≡ verdict signed rows room k row bytes (drop k (segments c))

  pub along-first : equal_lengths c ≡ true → Along 0 0 0
  along-first e = record { few = omega arith; row_in = omega arith; bytes-in = omega arith; so_far = verdict-first signed rows room c e }

  module _ (k row bytes : ℕ) (a : Along k row bytes) where
    -- no segment is left
    pub along-short : length c.starts ≤ k → row < length rows → None ≡ checked_as signed rows c room
    along-short h l = sym (a.so_far ∙ rw (segment-none c k h) (verdict-short signed rows room k row bytes l))

    pub along-end : length c.starts ≤ k → length rows ≤ row
        → Some (record { runs = k; rows = record { rows = row }; bytes = record { bytes = bytes } }) ≡ checked_as signed rows c room
    along-end h l = sym (a.so_far ∙ rw (segment-none c k h) (verdict-end signed rows room k row bytes (omega (arith, a.row_in)) a.bytes-in))

    -- the next one, by the bytes of its run
    module _ (h : k < length c.starts) (s : Segment) (e : s ≡ segment_at c k) (n : ℕ) (r : n ≡ size_in (step_in signed rows row s any_run)) where
      left : drop k (segments c) ≡ s ∷ drop (k + 1) (segments c)
      left = rw e (segment-next c k h)

      pub along-out : n ≡ 0 → None ≡ checked_as signed rows c room
      along-out z = sym (a.so_far
          ∙ rw left (verdict-out signed rows room k row bytes s (drop (k + 1) (segments c)) a.row_in
          (none signed rows row s any_run n r z)))

      pub along-taken : (n ≡ 0 → ⊥) → Taken signed rows row s any_run n
      along-taken z = some signed rows row s any_run n r z

      pub along-full : (n ≡ 0 → ⊥) → room - bytes < n → None ≡ checked_as signed rows c room
      along-full z l = sym (a.so_far ∙ rw left (verdict-full signed rows room k row bytes s (drop (k + 1) (segments c)) n (along-taken z) a.bytes-in l))

      pub along-next : (n ≡ 0 → ⊥) → n ≤ room - bytes → Along (k + 1) (row + s.count) (bytes + n)
      along-next z l = record {
        few = omega arith;
        row_in = omega (arith, (along-taken z).within, a.row_in);
        bytes-in = omega (arith, a.bytes-in);
        so_far = a.so_far ∙ rw left (verdict-next signed rows room k row bytes s (drop (k + 1) (segments c)) n (along-taken z));
      }
