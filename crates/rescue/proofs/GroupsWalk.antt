-- Each turn puts one group's rows and verdict after those before it, and goes on from the next position made plain; so what stands so far
-- and what is still to come are always the whole. Assumes nothing.
use mathlib.Core.Path.{◌≡◌, refl, sym, ap, ◌∙◌}
use Prim.Native.Nat.{ℕ, suc, ◌+◌, ◌-◌, ◌<◌, ◌≤◌}
use native.Mathlib.Omega.{arith}
use mathlib.Core.Bool.{Bool, true, false}
use mathlib.Core.List.{List, [], ◌∷◌, ◌++◌, append_assoc, append-nil}
use lib.ListN.{length, take, drop, set, get_or, length-set, length-drop}
use lib.Seq.{drop-drop, length-take-le}
use lib.IntN.{ℤ}
use mir.Val.{bool_byte}
use Rattle.batches.specs.Batches.{Position}
use Rattle.batches.specs.BatchPromise.{position_in}
use Rattle.batches.specs.declared.RowPosition.{RowPosition}
use Rattle.rescue.specs.Rescue.{made_plain, Group, group, positions, groups, beginning, kept, verdict, group_rows, rescued_rows}
use Rattle.rescue.specs.Rescue.{verdicts, sum}
use Rattle.rescue.specs.RescuePromise.{rescued_as, Written}
use Rattle.rescue.specs.RescueSteps.{plain_in, position_at, GroupRescued, Fit, all_groups}
use Rattle.std.specs.Prelude.{Option}
use Rattle.util.proofs.Grow as fill
use Rattle.rescue.proofs.ListedColumns.{groups-at, groups-end, begin-is, sum-at}
use Rattle.rescue.proofs.RescuedGroups.{rows-many}

pub few-verdict : (b : Bool) → verdict b ≤ 1
few-verdict true = omega arith
few-verdict false = omega arith

pub byte-verdict : (b : Bool) → bool_byte b ≡ verdict b
byte-verdict true = refl
byte-verdict false = refl

-- ---- the walk

module _ (bs : List ℕ) (signed : Bool) (rs ss ns : List ℕ) (fill-row : ℤ) (rows₀ : List ℤ) (marks₀ : List ℕ) where
  abbrev all : List Group
  all = groups (positions rs ss) ns

  abbrev rows_from : ℕ → List ℤ
  rows_from i = rescued_rows signed fill-row bs (drop i all)

  abbrev marks_from : ℕ → List ℕ
  marks_from i = verdicts bs (drop i all)

  abbrev plain_at : ℕ → Option RowPosition
  plain_at i = plain_in (made_plain bs (position_in (position_at (length bs) rs ss i)))

  -- `here` is the position of group i, made plain
  pub record Walked (rows : List ℤ) (marks : List ℕ) (here : Option RowPosition) (place keeps i : ℕ) : Type 0 where
    pub plain : here ≡ plain_at i
    pub listed : i ≤ length ns
    pub sums : place + sum (drop i ns) ≡ sum ns
    pub rows_long : length rows ≡ length rows₀
    pub rows-so : take place rows ++ rows_from i ≡ rescued_rows signed fill-row bs all
    pub rows-kept : drop place rows ≡ drop place rows₀
    pub marks-long : length marks ≡ length marks₀
    pub marks-so : take i marks ++ marks_from i ≡ verdicts bs all
    pub marks-kept : drop i marks ≡ drop i marks₀
    pub count : keeps + sum (marks_from i) ≡ sum (verdicts bs all)
    pub few : keeps ≤ i

  pub begun : (p : RowPosition) (here : Option RowPosition) → p ≡ position_at (length bs) rs ss 0 → here ≡ plain_in (made_plain bs (position_in p))
      → Walked rows₀ marks₀ here 0 0 0
  begun p here e f = record {
    plain = rw e at f;
    listed = omega arith;
    sums = omega arith;
    rows_long = refl;
    rows-so = refl;
    rows-kept = refl;
    marks-long = refl;
    marks-so = refl;
    marks-kept = refl;
    count = omega arith;
    few = omega arith;
  }

  module _ (f : Fit rs ss ns (length rows₀) (length marks₀)) (rows : List ℤ) (marks : List ℕ) (here : Option RowPosition) (place keeps i : ℕ)
      (w : Walked rows marks here place keeps i) where
    pub place-fits : place ≤ length rows
    place-fits = omega (arith, w.sums, f.rows_fit, w.rows_long)

    module _ (h : i < length ns) where
      abbrev n : ℕ
      n = get_or ns i 0

      abbrev g : Group
      g = group (position_in (position_at (length bs) rs ss i)) n

      abbrev next : Position
      next = position_in (position_at (length bs) rs ss (i + 1))

      pub end_fits : place + n ≤ length rows
      end_fits = omega (arith, w.sums, f.rows_fit, w.rows_long, sum-at ns i h)

      pub mark-fits : i < length marks
      mark-fits = omega (arith, f.marks-fit, w.marks-long)

      part-long : length (take (place + n - place) (drop place rows)) ≡ n
      part-long = length-take-le (place + n - place) (drop place rows) (rw (length-drop place rows) (omega (arith, end_fits))) ∙ omega arith

      one : i + 1 ≡ suc i
      one = omega arith

      begins : beginning (length bs) (drop (suc i) all) ≡ next
      begins = ap (λ (j : ℕ). beginning (length bs) (drop j all)) (sym one)
          ∙ begin-is (length bs) rs ss ns f.skips-long f.counts-long (i + 1)

      rows-here : rows_from i ≡ group_rows signed fill-row bs g next ++ rows_from (i + 1)
      unfolding rescued_rows
      rows-here = ap (rescued_rows signed fill-row bs) (groups-at (length bs) rs ss ns f.skips-long f.counts-long i h)
          ∙ rw (begins, one)

      marks-here : marks_from i ≡ verdict (kept bs g next) ∷ marks_from (i + 1)
      unfolding verdicts
      marks-here = ap (verdicts bs) (groups-at (length bs) rs ss ns f.skips-long f.counts-long i h) ∙ rw (begins, one)

      counted : sum (marks_from i) ≡ verdict (kept bs g next) + sum (marks_from (i + 1))
      unfolding sum
      counted = ap sum marks-here

      -- a group is rescued in its part of the rows, and its verdict is laid
      module _ (part : List ℤ) (keep : Bool) (mark : ℕ) (to : Option RowPosition) (p : RowPosition) (m : mark ≡ verdict keep)
          (e : p ≡ position_at (length bs) rs ss (i + 1)) (t : to ≡ plain_in (made_plain bs (position_in p)))
          (r : GroupRescued bs here to signed fill-row (take (place + n - place) (drop place rows)) part keep) where
        to_is : to ≡ plain_at (i + 1)
        to_is = rw e at t

        part-is : part ≡ group_rows signed fill-row bs g next
        part-is = r.rows g.from next w.plain to_is ∙ ap (λ (k : ℕ). group_rows signed fill-row bs (group g.from k) next) part-long

        keep-is : keep ≡ kept bs g next
        keep-is = r.keeps g.from next w.plain to_is ∙ ap (λ (k : ℕ). kept bs (group g.from k) next) part-long

        part-many : length part ≡ n
        part-many = ap length part-is ∙ rows-many bs g next signed fill-row

        abbrev rows' : List ℤ
        rows' = take place rows ++ (part ++ drop (place + n - place) (drop place rows))

        rows_are : rows' ≡ (take place rows ++ part) ++ drop (place + n) rows
        rows_are =
            let e : place + n - place ≡ n = omega arith in
            rw (e, drop-drop n place rows, append_assoc (take place rows) part (drop (place + n) rows))

        pub onward : Walked rows' (set marks i mark) to (place + n) (keeps + mark) (i + 1)
        onward = rw m (record {
          plain = to_is;
          listed = omega arith;
          sums = rw one (omega (arith, w.sums, sum-at ns i h));
          rows_long = fill.long-by rows rows' part place n place-fits part-many rows_are end_fits ∙ w.rows_long;
          rows-so =
              ap (λ (x : List ℤ). x ++ rows_from (i + 1)) (fill.front-is rows rows' part place n place-fits part-many rows_are)
              ∙ append_assoc (take place rows) part (rows_from (i + 1))
              ∙ ap (λ (x : List ℤ). take place rows ++ (x ++ rows_from (i + 1))) part-is
              ∙ ap (λ (x : List ℤ). take place rows ++ x) (sym rows-here) ∙ w.rows-so;
          rows-kept = fill.kept_by rows rows' part place n place-fits part-many rows_are rows₀ w.rows-kept;
          marks-long = length-set marks i (verdict keep) ∙ w.marks-long;
          marks-so = fill.grow marks i (verdict keep) (marks_from (i + 1)) (verdicts bs all) mark-fits
              (rw keep-is (ap (λ (x : List ℕ). take i marks ++ x) (sym marks-here) ∙ w.marks-so));
          marks-kept = fill.kept marks marks₀ i (verdict keep) w.marks-kept;
          count = rw keep-is (omega (arith, w.count, counted));
          few = omega (arith, w.few, few-verdict keep);
        })

    -- no group is left
    module _ (h : length ns ≤ i) where
      none : drop i all ≡ []
      none = groups-end (length bs) rs ss ns f.skips-long f.counts-long i h

      rows_all : take place rows ++ [] ≡ rescued_rows signed fill-row bs all
      unfolding rescued_rows
      rows_all = ap (λ (x : List Group). take place rows ++ rescued_rows signed fill-row bs x) (sym none) ∙ w.rows-so

      marks-all : take i marks ++ [] ≡ verdicts bs all
      unfolding verdicts
      marks-all = ap (λ (x : List Group). take i marks ++ verdicts bs x) (sym none) ∙ w.marks-so

      rows-many-all : length (rescued_rows signed fill-row bs all) ≡ place
      rows-many-all = ap length (sym rows_all ∙ append-nil (take place rows)) ∙ length-take-le place rows place-fits

      marks-many : length (verdicts bs all) ≡ i
      marks-many = ap length (sym marks-all ∙ append-nil (take i marks))
          ∙ length-take-le i marks (omega (arith, f.marks-fit, w.marks-long, w.listed))

      keeps-all : keeps ≡ sum (verdicts bs all)
      unfolding verdicts sum
      keeps-all =
          let e : sum (marks_from i) ≡ 0 = ap (λ (x : List Group). sum (verdicts bs x)) none in
          omega (arith, w.count)

      pub done : Written (all_groups signed fill-row bs all) rows₀ rows marks₀ marks (rescued_as place keeps)
      done = record {
        answer = rw (rows-many-all, keeps-all);
        rows_are = rw rows-many-all (fill.filled rows rows₀ (rescued_rows signed fill-row bs all) place rows_all w.rows-kept);
        marks-are = rw marks-many (fill.filled marks marks₀ (verdicts bs all) i marks-all w.marks-kept);
      }
