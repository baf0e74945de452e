-- The walk over the segments: each turn takes one of them, or ends with what the check says. Assumes nothing.
use Rattle.std.specs.Prelude.{Option, Some, None}
use mathlib.Core.Path.{◌≡◌, refl, ◌∙◌}
use Prim.Native.Nat.{ℕ, suc, ◌+◌, ◌-◌, ◌<◌, ◌≤◌}
use native.Mathlib.Omega.{arith}
use native.Mathlib.Nat.{add-zero, zero-add}
use mathlib.Core.Bool.{Bool, true, false, ◌&&◌, and-false}
use mathlib.Core.List.{List, [], ◌∷◌, ◌++◌}
use lib.ListN.{length, take, drop, length-append, length-take, length-drop}
use lib.Dec.{eqb, leb}
use lib.IntN.{ℤ}
use borrow.Author.Tests.{eqb-true, eq-eqb, ne_eqb, leb-true, leb-false, le-leb, lt-leb}
use Rattle.format.specs.Fields.{pick}
use Rattle.format.specs.Runs.{Description, row_count, layout, joined}
use Rattle.format.specs.Parse.{plain, Parsed, end, got, refused}
use Rattle.format.specs.Streams.{total_rows}
use Rattle.format.proofs.Runs.{layout-pos}
use Rattle.format.proofs.Tests.{never, both}
use Rattle.writer.specs.Sizes.{size_in}
use Rattle.planner.specs.declared.segment.Segment.{Segment}
use Rattle.planner.specs.declared.Columned.{Columned}
use Rattle.planner.specs.Check.{Columns, equal_lengths, segments, covers, any_run, run_in, run_of, is_run, all_runs, runs, accepted, checked_as}
use Rattle.planner.specs.Walk.{step_in, Ran}
use Rattle.planner.proofs.Segments.{covers-le, covers-over}
use Rattle.planner.proofs.Writers.{rows-given, in-room}

module _ (signed : Bool) (rows : List ℤ) where
  -- ---- one segment

  -- it was accepted in so much room: its run
  pub record Taken (at : ℕ) (s : Segment) (room n : ℕ) : Type 0 where
    pub which : Description
    pub rest : List ℕ
    pub here : s.start ≡ at
    pub within : s.count ≤ length rows - at
    pub written : run_in signed rows s room ≡ got which rest
    pub size : n ≡ length (layout which)

  module _ (at : ℕ) (s : Segment) (room : ℕ) where
    -- no bytes: nothing was accepted
    pub none : (n : ℕ) → n ≡ size_in (step_in signed rows at s room) → n ≡ 0 → is_run (step_in signed rows at s room) ≡ false
    none n r e = go (step_in signed rows at s room) r
      where
        go : (m : Parsed Description) → n ≡ size_in m → is_run m ≡ false
        go end f = refl
        go (got d rest) f = absurd (omega (arith, f, e, layout-pos d))
        go (refused q) f = refl

    pub some : (n : ℕ) → n ≡ size_in (step_in signed rows at s room) → (n ≡ 0 → ⊥) → Taken at s room n
    unfolding step_in
    some n r e = go (eqb s.start at) (leb s.count (length rows - at)) (run_in signed rows s room) refl refl refl r
      where
        go : (a b : Bool) (m : Parsed Description) → eqb s.start at ≡ a → leb s.count (length rows - at) ≡ b → run_in signed rows s room ≡ m
            → n ≡ size_in (pick (a && b) m (refused (plain 10))) → Taken at s room n
        go false b m f g w z = absurd (e z)
        go true false m f g w z = absurd (e z)
        go true true end f g w z = absurd (e z)
        go true true (got d rest) f g w z = record {
          which = d;
          rest = rest;
          here = eqb-true s.start at f;
          within = leb-true s.count (length rows - at) g;
          written = w;
          size = z;
        }
        go true true (refused q) f g w z = absurd (e z)

  -- ---- what the check says of the segments that are left, behind k runs of so many rows and bytes

  abbrev counted : ℕ → ℕ → ℕ → List Description → Columned
  counted k row bytes ds = record { runs = k + length ds; rows = record { rows = row + total_rows ds }; bytes = record { bytes = bytes + length (joined ds) } }

  module _ (room : ℕ) where
    abbrev passes : ℕ → ℕ → List Segment → Bool
    passes row bytes ss = covers (length rows) row ss && all_runs signed rows ss && leb (bytes + length (joined (runs signed rows ss))) room

    unfoldable pub verdict : ℕ → ℕ → ℕ → List Segment → Option Columned
    verdict k row bytes ss = pick (passes row bytes ss) (Some (counted k row bytes (runs signed rows ss))) None

    pub verdict-first : (c : Columns) → equal_lengths c ≡ true → checked_as signed rows c room ≡ verdict 0 0 0 (segments c)
    unfolding checked_as accepted verdict
    verdict-first c e =
        let ds : List Description = runs signed rows (segments c) in
        rw (e, zero-add (length ds), zero-add (total_rows ds), zero-add (length (joined ds)))

    pub verdict-out : (k row bytes : ℕ) (s : Segment) (ss : List Segment) → row ≤ length rows → is_run (step_in signed rows row s any_run) ≡ false
        → verdict k row bytes (s ∷ ss) ≡ None
    unfolding verdict step_in covers all_runs
    verdict-out k row bytes s ss h e = go (eqb s.start row) (leb s.count (length rows - row)) (is_run (run_of signed rows s)) refl refl refl e
      where
        go : (a b t : Bool) → eqb s.start row ≡ a → leb s.count (length rows - row) ≡ b → is_run (run_of signed rows s) ≡ t
            → is_run (pick (a && b) (run_of signed rows s) (refused (plain 10))) ≡ false → verdict k row bytes (s ∷ ss) ≡ None
        go false b t f g w z = rw f
        go true false t f g w z = rw (f, covers-over (length rows) (row + s.count) ss (omega (arith, leb-false s.count (length rows - row) g)))
        go true true t f g w z = rw (f, z, and-false (covers (length rows) (row + s.count) ss))

    module _ (k row bytes : ℕ) (s : Segment) (ss : List Segment) (n : ℕ) (t : Taken row s any_run n) where
      abbrev ds : List Description
      ds = runs signed rows ss

      -- as many rows as the segment says
      its-rows : row_count t.which ≡ s.count
      its-rows =
          rows-given signed s.form s.width s.base (take s.count (drop s.start rows)) any_run t.written
          ∙ length-take s.count (drop s.start rows)
          ∙ omega (arith, length-drop s.start rows, t.here, t.within)

      pub verdict-next : verdict k row bytes (s ∷ ss) ≡ verdict (k + 1) (row + s.count) (bytes + n) ss
      unfolding verdict covers all_runs runs joined total_rows
      verdict-next =
          let e : k + suc (length ds) ≡ k + 1 + length ds = omega arith in
          let f : row + (row_count t.which + total_rows ds) ≡ row + s.count + total_rows ds = omega (arith, its-rows) in
          let g : bytes + length (layout t.which ++ joined ds) ≡ bytes + n + length (joined ds) =
          omega (arith, length-append (layout t.which) (joined ds), t.size) in
          rw (eq-eqb s.start row t.here, t.written, e, f, g)

      pub verdict-full : bytes ≤ room → room - bytes < n → verdict k row bytes (s ∷ ss) ≡ None
      unfolding verdict runs joined
      verdict-full h l =
          let p : leb (bytes + length (joined (runs signed rows (s ∷ ss)))) room ≡ false =
          rw t.written (lt-leb (bytes + length (layout t.which ++ joined ds)) room
          (omega (arith, length-append (layout t.which) (joined ds), t.size))) in
          rw (p, and-false (covers (length rows) row (s ∷ ss) && all_runs signed rows (s ∷ ss)))

    pub verdict-short : (k row bytes : ℕ) → row < length rows → verdict k row bytes [] ≡ None
    unfolding verdict covers
    verdict-short k row bytes h = rw (ne_eqb row (length rows) (λ e. omega arith))

    pub verdict-end : (k row bytes : ℕ) → row ≡ length rows → bytes ≤ room
        → verdict k row bytes [] ≡ Some (record { runs = k; rows = record { rows = row }; bytes = record { bytes = bytes } })
    unfolding verdict covers all_runs runs joined total_rows
    verdict-end k row bytes e h = rw (eq-eqb row (length rows) e, le-leb (bytes + 0) room (omega arith), add-zero k, add-zero row, add-zero bytes)

  -- ---- the segments that are left of an accepted proposal

  -- the first of them: its run, and the others
  pub record Next (row : ℕ) (s : Segment) (ss : List Segment) : Type 0 where
    pub which : Description
    pub rest : List ℕ
    pub here : s.start ≡ row
    pub within : row + s.count ≤ length rows
    pub written : run_of signed rows s ≡ got which rest
    pub covering : covers (length rows) (row + s.count) ss ≡ true
    pub writers : all_runs signed rows ss ≡ true
    pub runs-are : joined (runs signed rows (s ∷ ss)) ≡ layout which ++ joined (runs signed rows ss)

  pub next : (row : ℕ) (s : Segment) (ss : List Segment) → covers (length rows) row (s ∷ ss) ≡ true → all_runs signed rows (s ∷ ss) ≡ true → Next row s ss
  unfolding covers all_runs runs joined
  next row s ss e f =
      let p = both (eqb s.start row) (covers (length rows) (row + s.count) ss) e in
      let q = both (is_run (run_of signed rows s)) (all_runs signed rows ss) f in
      go (run_of signed rows s) refl q.0 (eqb-true s.start row p.0) p.1 q.1
    where
      go : (m : Parsed Description) → run_of signed rows s ≡ m → is_run m ≡ true → s.start ≡ row → covers (length rows) (row + s.count) ss ≡ true
          → all_runs signed rows ss ≡ true → Next row s ss
      go end w z a b c = never (cc)
      go (got d rest) w z a b c = record {
        which = d;
        rest = rest;
        here = a;
        within = covers-le (length rows) (row + s.count) ss b;
        written = w;
        covering = b;
        writers = c;
        runs-are = rw w;
      }
      go (refused r) w z a b c = never (cc)

  -- its step, in any room that holds the run
  pub next-ran : (row : ℕ) (s : Segment) (ss : List Segment) (x : Next row s ss) (out out' : List ℕ) (n : ℕ) → length (layout x.which) ≤ length out
      → Ran (step_in signed rows row s (length out)) out out' n
      → (n ≡ length (layout x.which)) × (out' ≡ layout x.which ++ drop (length (layout x.which)) out)
  unfolding step_in
  next-ran row s ss x out out' n h r =
      let w = (in-room signed s.form s.width s.base (take s.count (drop s.start rows)) any_run x.written).elsewhere (length out) h in
      let e : step_in signed rows row s (length out) ≡ got x.which x.rest =
      rw (eq-eqb s.start row x.here, le-leb s.count (length rows - row) (omega (arith, x.within)), w) in
      (r.size ∙ rw e, r.places ∙ rw e)
