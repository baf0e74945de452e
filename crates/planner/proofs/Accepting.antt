-- Accepted exactly as FORMAT.md, "Column writer", says. Assumes nothing.
use Rattle.std.specs.Prelude.{Option, Some, None}
use mathlib.Core.Path.{◌≡◌, refl, sym, ap, subst, ◌∙◌}
use mathlib.Core.Logic.{◌↔◌}
use Prim.Native.Nat.{ℕ, ◌+◌, ◌≤◌}
use native.Mathlib.Omega.{arith}
use native.Mathlib.Nat.{add-zero, zero-add}
use mathlib.Core.Bool.{Bool, true, false, ◌&&◌}
use mathlib.Core.List.{List, [], ◌∷◌, ◌++◌}
use lib.ListN.{length, length-append}
use lib.IntN.{ℤ}
use lib.Dec.{leb, eqb}
use borrow.Author.Tests.{eqb-true, eq-eqb, le-leb, lt-leb, leb-true, leb-false}
use Rattle.format.specs.Fields.{pick}
use Rattle.format.specs.Runs.{Description, joined}
use Rattle.format.specs.Parse.{Parsed, end, got, refused}
use Rattle.format.proofs.Tests.{never, both, not_so}
use Rattle.planner.specs.declared.Columned.{Columned}
use Rattle.planner.specs.declared.segment.Segment.{Segment}
use Rattle.planner.specs.Check.{Columns, equal_lengths, segments, covers, run_of, is_run, before, all_runs, runs, accepted, wide, Column}
use Rattle.planner.specs.Check.{planned, direct, eight, column, told, checked_as}
use Rattle.planner.specs.Laws.{sum_rows, Covers, Accept, none, more, Accepted, Answers, as-planned, as-direct, as-eight, Checks}
use Rattle.planner.specs.Laws.{accepts, rejects, CheckExactlyHolds}

-- ---- the segments cover the rows from `at` on

record From (rows at : ℕ) (ss : List Segment) : Type 0 where
  begins : (first : List Segment) (s : Segment) (others : List Segment) → ss ≡ first ++ (s ∷ others) → s.start ≡ at + sum_rows first
  ends : at + sum_rows ss ≡ rows

from : (rows at : ℕ) (ss : List Segment) → covers rows at ss ≡ true → From rows at ss
unfolding covers
from rows at [] e = record {
  begins = λ first s others z. absurd (omega (arith, ap length z, length-append first (s ∷ others)));
  ends = omega (arith, eqb-true at rows e);
}
from rows at (t ∷ ss) e =
    let b = both (eqb t.start at) (covers rows (at + t.count) ss) e in
    let f = from rows (at + t.count) ss b.1 in
    record { begins = go (eqb-true t.start at b.0) f; ends = omega (arith, f.ends) }
  where
    go : t.start ≡ at → From rows (at + t.count) ss
        → (first : List Segment) (s : Segment) (others : List Segment) → t ∷ ss ≡ first ++ (s ∷ others) → s.start ≡ at + sum_rows first
    go h f [] s others z =
        let w : t ≡ s = cc in
        ap (λ (x : Segment). x.start) (sym w) ∙ h ∙ sym (add-zero at)
    go h f (u ∷ first) s others z =
        let w : t.count ≡ u.count = cc in
        let y : ss ≡ first ++ (s ∷ others) = cc in
        f.begins first s others y ∙ omega (arith, w)

to-covers : (rows at : ℕ) (ss : List Segment) → From rows at ss → covers rows at ss ≡ true
unfolding covers
to-covers rows at [] f = eq-eqb at rows (omega (arith, f.ends))
to-covers rows at (t ∷ ss) f =
    rw (eq-eqb t.start at (f.begins [] t ss refl ∙ add-zero at))
    (to-covers rows (at + t.count) ss (record {
      begins = λ first s others z. f.begins (t ∷ first) s others (ap (λ (l : List Segment). t ∷ l) z) ∙ omega arith;
      ends = omega (arith, f.ends);
    }))

pub covers-exactly : (rows : ℕ) (ss : List Segment) → (covers rows 0 ss ≡ true) ↔ Covers rows ss
covers-exactly rows ss = (
  λ e. let f = from rows 0 ss e in record { begins = λ first s others z. f.begins first s others z ∙ zero-add _; ends = omega (arith, f.ends) },
  λ c. to-covers rows 0 ss (record { begins = λ first s others z. c.begins first s others z ∙ sym (zero-add _); ends = omega (arith, c.ends) }),
)

-- ---- each writer accepts its segment

module _ (signed : Bool) (rows : List ℤ) where
  accept : (ss : List Segment) → all_runs signed rows ss ≡ true → Accept signed rows ss (runs signed rows ss)
  unfolding all_runs runs
  accept [] e = none
  accept (s ∷ ss) e = go (run_of signed rows s) refl e (λ f. accept ss f)
    where
      go : (m : Parsed Description) → run_of signed rows s ≡ m → (is_run m && all_runs signed rows ss) ≡ true
          → (all_runs signed rows ss ≡ true → Accept signed rows ss (runs signed rows ss))
          → Accept signed rows (s ∷ ss) (before m (runs signed rows ss))
      go end f e ih = never (cc)
      go (got d rest) f e ih = more f (ih e)
      go (refused r) f e ih = never (cc)

  all-accept : {ss : List Segment} {ds : List Description} → Accept signed rows ss ds
      → (all_runs signed rows ss ≡ true) × (runs signed rows ss ≡ ds)
  unfolding all_runs runs
  all-accept none = (refl, refl)
  all-accept (more e a) = let r = all-accept a in (rw (e, r.0), rw (e, r.1))

  module _ (c : Columns) (room : ℕ) where
    -- the four tests
    pub tests : accepted signed rows c room ≡ true
        → (equal_lengths c ≡ true) × (covers (length rows) 0 (segments c) ≡ true) × (all_runs signed rows (segments c) ≡ true)
        × (length (joined (runs signed rows (segments c))) ≤ room)
    unfolding accepted
    tests e =
        let bytes : ℕ = length (joined (runs signed rows (segments c))) in
        let p = both (equal_lengths c && covers (length rows) 0 (segments c) && all_runs signed rows (segments c)) (leb bytes room) e in
        let q = both (equal_lengths c && covers (length rows) 0 (segments c)) (all_runs signed rows (segments c)) p.0 in
        let r = both (equal_lengths c) (covers (length rows) 0 (segments c)) q.0 in
        (r.0, r.1, q.1, leb-true bytes room p.1)

    of-accepted : accepted signed rows c room ≡ true → Accepted signed rows c room (runs signed rows (segments c))
    of-accepted e =
        let t = tests e in
        record { equal = t.0; covering = (covers-exactly (length rows) (segments c)).0 t.1; writers = accept (segments c) t.2; fits = t.3 }

    to-accepted : {ds : List Description} → Accepted signed rows c room ds
        → (accepted signed rows c room ≡ true) × (runs signed rows (segments c) ≡ ds)
    unfolding accepted
    to-accepted {ds} a =
        let r = all-accept a.writers in
        let l : leb (length (joined (runs signed rows (segments c)))) room ≡ true = rw r.1 (le-leb (length (joined ds)) room a.fits) in
        (rw (a.equal, (covers-exactly (length rows) (segments c)).1 a.covering, r.0, l), r.1)

    answers : Answers signed rows c room (column signed rows c room)
    unfolding column
    answers = go (accepted signed rows c room) (leb (length (joined (wide signed rows))) room) refl refl
      where
        go : (t u : Bool) → accepted signed rows c room ≡ t → leb (length (joined (wide signed rows))) room ≡ u
            → Answers signed rows c room (pick t (planned (runs signed rows (segments c))) (pick u (direct (wide signed rows)) eight))
        go true u e f = as-planned (of-accepted e)
        go false true e f = as-direct (λ ds a. never (cc (to-accepted a).0)) (leb-true (length (joined (wide signed rows))) room f)
        go false false e f = as-eight (λ ds a. never (cc (to-accepted a).0)) (leb-false (length (joined (wide signed rows))) room f)

    answered : {r : Column} → Answers signed rows c room r → column signed rows c room ≡ r
    unfolding column
    answered (as-planned a) = let p = to-accepted a in rw (p.0, p.1)
    answered (as-direct h l) =
        rw (not_so (accepted signed rows c room) (λ e. h _ (of-accepted e)), le-leb (length (joined (wide signed rows))) room l)
    answered (as-eight h l) =
        rw (not_so (accepted signed rows c room) (λ e. h _ (of-accepted e)), lt-leb (length (joined (wide signed rows))) room l)

    checks : Checks signed rows c room (checked_as signed rows c room)
    unfolding checked_as
    checks = go (accepted signed rows c room) refl
      where
        go : (t : Bool) → accepted signed rows c room ≡ t
            → Checks signed rows c room (pick t (Some (told (runs signed rows (segments c)))) None)
        go true e = accepts (of-accepted e)
        go false e = rejects (λ ds a. never (cc (to-accepted a).0))

    checked-as : {r : Option Columned} → Checks signed rows c room r → checked_as signed rows c room ≡ r
    unfolding checked_as
    checked-as (accepts a) = let p = to-accepted a in rw (p.0, p.1)
    checked-as (rejects h) = rw (not_so (accepted signed rows c room) (λ e. h _ (of-accepted e)))

pub check-exactly : CheckExactlyHolds
check-exactly signed rows c room = record {
  checks = λ r. (
    λ e. subst (λ (x : Option Columned). Checks signed rows c room x) e (checks signed rows c room),
    λ a. checked-as signed rows c room a,
  );
  writes = λ r. (
    λ e. subst (λ (x : Column). Answers signed rows c room x) e (answers signed rows c room),
    λ a. answered signed rows c room a,
  );
}
