-- Whatever the proposal, what is written reads whole as exactly the rows. Assumes nothing.
use Rattle.std.specs.Prelude.{Result}
use mathlib.Core.Path.{◌≡◌, refl, sym, ap, subst, ◌∙◌}
use Prim.Native.Nat.{ℕ, ◌+◌, ◌<◌, ◌≤◌}
use native.Mathlib.Omega.{arith}
use mathlib.Core.Bool.{Bool}
use mathlib.Core.List.{List, [], ◌∷◌, ◌++◌}
use lib.ListN.{length, take, drop, take-append-drop}
use lib.Seq.{drop-length, drop-drop, take-append_seam, drop-append_seam}
use lib.IntN.{ℤ}
use Rattle.format.specs.Digits.{AllBelow}
use Rattle.format.specs.Fields.{two64}
use Rattle.format.specs.Runs.{Description, AllValid, joined}
use Rattle.format.specs.Streams.{read_all, total_rows, joined_rows}
use Rattle.format.specs.Writing.{AllI64}
use Rattle.format.proofs.Below.{below-getD, below-drop}
use Rattle.format.proofs.Rows.{joined-count}
use Rattle.format.proofs.Streams.{stream-whole}
use Rattle.planner.specs.declared.segment.Segment.{Segment}
use Rattle.planner.specs.declared.ColumnRuns.{ColumnRuns}
use Rattle.format.specs.declared.Refusal.{Refusal}
use Rattle.planner.specs.Check.{Columns, segments_from, any_run, Column, planned, direct, eight, column, column_bytes, told_as}
use Rattle.planner.specs.Laws.{sum_rows, Accept, none, more, Accepted, Answers, as-planned, as-direct, Reads, WhateverProposed}
use Rattle.planner.specs.Laws.{when-planned, when-direct, when-eight, Whatever, CheckDetermined, ColumnDetermined}
use Rattle.planner.proofs.Accepting.{check-exactly}
use Rattle.planner.proofs.Direct.{fit-take, fit-drop, wide_is}
use Rattle.planner.proofs.Writers.{stands}

-- ---- the segments' bases are u64

AllBases : List Segment → Type 0
AllBases [] = Unit {0}
AllBases (s ∷ ss) = (s.base < two64) × AllBases ss

bases-from : (starts counts forms widths bases : List ℕ) → AllBelow two64 bases → AllBases (segments_from starts counts forms widths bases)
unfolding segments_from AllBases
bases-from [] counts forms widths bases h = tt
bases-from (x ∷ starts) counts forms widths bases h =
    (below-getD two64 bases 0 0 h (omega arith), bases-from starts (drop 1 counts) (drop 1 forms) (drop 1 widths) (drop 1 bases) (below-drop two64 1 bases h))

-- ---- the runs of a proposal stand for the rows

module _ (signed : Bool) where
  -- the runs of segments that cover the rows from `at` on
  module _ (rows : List ℤ) (h : AllI64 rows) where
    runs-are : (at : ℕ) {ss : List Segment} {ds : List Description} → Accept signed rows ss ds → AllBases ss
        → ((first : List Segment) (s : Segment) (others : List Segment) → ss ≡ first ++ (s ∷ others) → s.start ≡ at + sum_rows first)
        → at + sum_rows ss ≡ length rows
        → AllValid ds × (joined_rows signed ds ≡ drop at rows)
    unfolding joined_rows AllBases
    runs-are at none hb b e =
        let z : at ≡ length rows = omega arith in
        (tt, rw z (sym (drop-length rows)))
    runs-are at (more {s} {ss} {d} {rest} {ds} f a) hb b e =
        let z : s.start ≡ at = b [] s ss refl ∙ omega arith in
        let part : List ℤ = take s.count (drop s.start rows) in
        let g = stands signed s.form s.width s.base part any_run (fit-take s.count (drop s.start rows) (fit-drop s.start rows h)) hb.0 f in
        let r = runs-are (at + s.count) a hb.1 (λ first t others y. b (s ∷ first) t others (ap (λ (l : List Segment). s ∷ l) y)
        ∙ omega arith) (omega (arith, e)) in
        ((g.valid, r.0), rw (g.rows_are, r.1, z, ← (drop-drop s.count at rows)) (take-append-drop s.count (drop at rows)))

  module _ (rows : List ℤ) (h : AllI64 rows) (c : Columns) (hb : AllBelow two64 c.bases) (room : ℕ) where
    -- either way the runs are valid and stand for the rows, and there is room
    record Good (ds : List Description) : Type 0 where
      fits : length (joined ds) ≤ room
      valid : AllValid ds
      rows_are : joined_rows signed ds ≡ rows

    planned-good : {ds : List Description} → Accepted signed rows c room ds → Good ds
    planned-good a =
        let r = runs-are rows h 0 a.writers (bases-from c.starts c.counts c.forms c.widths c.bases hb)
        (λ first s others z. a.covering.begins first s others z ∙ omega arith) (omega (arith, a.covering.ends)) in
        record { fits = a.fits; valid = r.0; rows_are = r.1 }

    of-planned : {ds : List Description} → Answers signed rows c room (planned ds) → Good ds
    of-planned (as-planned a) = planned-good a

    of-direct : {ds : List Description} → Answers signed rows c room (direct ds) → Good ds
    of-direct (as-direct never l) = let w = wide_is signed rows h in record { fits = l; valid = w.0; rows_are = w.1 }

reads : (signed : Bool) (rows : List ℤ) (out out' : List ℕ) (ds : List Description) → length (joined ds) ≤ length out → AllValid ds
    → joined_rows signed ds ≡ rows
    → out' ≡ joined ds ++ drop (length (joined ds)) out → Reads signed rows out out' ds
reads signed rows out out' ds l v e p =
    let n : total_rows ds ≡ length rows = sym (joined-count signed ds) ∙ ap (λ zs. length zs) e in
    let b : take (length (joined ds)) out' ≡ joined ds = rw p (take-append_seam (joined ds) (drop (length (joined ds)) out)) in
    record {
      fits = l;
      bytes = b;
      others = rw p (drop-append_seam (joined ds) (drop (length (joined ds)) out));
      valid = v;
      rows_are = e;
      count = n;
      reads = λ m k. ap (read_all m) b ∙ stream-whole m ds v (rw n k);
    }

pub whatever : Whatever
whatever signed rows c out out' r h hb w =
    subst (λ (a : Result ColumnRuns Refusal). WhateverProposed signed rows out out' a) (sym w.answer)
    (go (column signed rows c (length out)) (((check-exactly signed rows c (length out)).writes (column signed rows c (length out))).0 refl) w.places)
  where
    go : (x : Column) → Answers signed rows c (length out) x → out' ≡ column_bytes out x → WhateverProposed signed rows out out' (told_as x)
    go (planned ds) a p =
        let g = of-planned signed rows h c hb (length out) a in
        when-planned {ds = ds} (reads signed rows out out' ds g.fits g.valid g.rows_are p)
    go (direct ds) a p =
        let g = of-direct signed rows h c hb (length out) a in
        when-direct {ds = ds} (reads signed rows out out' ds g.fits g.valid g.rows_are p)
    go eight a p = when-eight p

pub check-determined : CheckDetermined
check-determined signed rows c room r r' p q = p ∙ sym q

pub column-determined : ColumnDetermined
column-determined signed rows c out o o' r r' p q = (p.answer ∙ sym q.answer, p.places ∙ sym q.places)
