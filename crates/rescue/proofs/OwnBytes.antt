-- Two inputs with the same bytes from a position's run to the end of the run that holds its last row have the same runs there, so the same
-- rows and the same next position. Assumes nothing.
use mathlib.Core.Path.{◌≡◌, refl, sym, ap, ◌∙◌, subst}
use Prim.Native.Nat.{ℕ, ◌+◌, ◌-◌, ◌<◌, ◌≤◌}
use native.Mathlib.Omega.{arith}
use native.Mathlib.Decide.{dec_lt}
use mathlib.Core.Bool.{Bool}
use mathlib.Core.List.{List, [], ◌∷◌, ◌++◌}
use lib.ListN.{length, take, drop, take-append-drop}
use lib.Seq.{take-take, take_at, drop_at, drop-drop}
use borrow.Author.Tests.{ne_eqb}
use Rattle.format.specs.Digits.{AllBelow}
use Rattle.format.specs.Runs.{Description, Valid, row_count, layout}
use Rattle.format.specs.Rows.{i64_rows}
use Rattle.format.specs.Parse.{Parsed, parse}
use Rattle.format.specs.Streams.{after, stream, runs_of, total_rows, joined_rows}
use Rattle.format.proofs.Below.{below-drop}
use Rattle.format.proofs.Rows.{i64-count, row-bounds}
use Rattle.format.proofs.Runs.{Outcome, nothing, run, refusal, outcome}
use Rattle.index.proofs.Entries.{total-cons}
use Rattle.format.proofs.StreamRoom.{stream-none, stream-refused, stream-cons}
use Rattle.batches.specs.Batches.{Position, position_of, reading_at}
use Rattle.batches.proofs.RowPositions.{runs_after, in-first, past_first, no_run, rows-cons}
use Rattle.batches.proofs.NextPosition.{no-total}
use Rattle.rescue.specs.Rescue.{at, made_plain}
use Rattle.rescue.specs.RescueTheorems.{span}
use Rattle.rescue.proofs.ListParts.{part_same, front_same}
use Rattle.rescue.proofs.PlainPositions.{plain-if, plain-inv, first-row}

-- ---- the bytes of the first runs

pub span_none : (ds : List Description) → span 0 ds ≡ 0
unfolding span
span_none [] = refl
span_none (d ∷ ds) = refl

pub span-some : (k : ℕ) (d : Description) (ds : List Description) → 0 < k → span k (d ∷ ds) ≡ length (layout d) + span (k - row_count d) ds
unfolding span
span-some k d ds h = rw (ne_eqb k 0 (λ e. omega arith))

-- ---- a run that is read at a byte

record Begins (bs : List ℕ) (b : ℕ) (d : Description) (ds : List Description) : Type 0 where
  valid : Valid d
  split : drop b bs ≡ layout d ++ drop (b + length (layout d)) bs
  rest : runs_of (stream (drop (b + length (layout d)) bs)) ≡ ds

begins : (bs : List ℕ) (b : ℕ) (d : Description) (ds : List Description) → AllBelow 256 bs → runs_of (stream (drop b bs)) ≡ d ∷ ds
    → Begins bs b d ds
begins bs b d ds h e = go (parse (drop b bs)) refl (outcome (drop b bs) (below-drop 256 b bs h))
  where
    none : [] ≡ d ∷ ds → Begins bs b d ds
    none q = let z : ◌≡◌ {A = ℕ} 0 1 = cc in absurd (omega arith)

    go : (m : Parsed Description) → parse (drop b bs) ≡ m → Outcome (drop b bs) m → Begins bs b d ds
    go m q (nothing z) = none (sym (ap (λ (x : List ℕ). runs_of (stream x)) z ∙ ap runs_of stream-none) ∙ e)
    go m q (run {d = c} {rest} t) =
        let r : rest ≡ drop (b + length (layout c)) bs = sym (sym (drop-drop (length (layout c)) b bs)
        ∙ rw t.split (drop_at (layout c) rest (length (layout c)) refl)) in
        let w : stream (drop b bs) ≡ after c (stream rest) = ap stream t.split ∙ stream-cons c rest t.ok t.rest-bytes in
        let u : c ∷ runs_of (stream rest) ≡ d ∷ ds = sym (ap runs_of w ∙ runs_after c (stream rest)) ∙ e in
        let v : c ≡ d = cc in
        let y : runs_of (stream rest) ≡ ds = cc in
        subst (λ (x : Description). Begins bs b x ds) v (record {
          valid = t.ok;
          split = t.split ∙ ap (λ (x : List ℕ). layout c ++ x) r;
          rest = ap (λ (x : List ℕ). runs_of (stream x)) (sym r) ∙ y;
        })
    go m q (refusal {r} z) = none (sym (ap runs_of (stream-refused (drop b bs) r q)) ∙ e)

-- ---- two inputs with the same bytes there

module _ (signed : Bool) (bs cs : List ℕ) (h : AllBelow 256 bs) (g : AllBelow 256 cs) where
  pub record Agree (b k : ℕ) (ds es : List Description) : Type 0 where
    pub enough : k ≤ total_rows es
    pub place : position_of b k es ≡ position_of b k ds
    pub rows : take k (joined_rows signed es) ≡ take k (joined_rows signed ds)

  no_rows : (b k : ℕ) (ds : List Description) → k ≡ 0 → runs_of (stream (drop b bs)) ≡ ds → Agree b k ds (runs_of (stream (drop b cs)))
  no_rows b k ds z e = rw z (record {
    enough = omega arith;
    place = first-row cs b g ∙ sym (ap (position_of b 0) (sym e) ∙ first-row bs b h);
    rows = refl;
  })

  -- the first run is there too
  module _ (b k : ℕ) (d : Description) (ds : List Description) (z : 0 < k) (w : Begins bs b d ds)
      (s : take (span k (d ∷ ds)) (drop b bs) ≡ take (span k (d ∷ ds)) (drop b cs)) where
    abbrev n : ℕ
    n = length (layout d)

    abbrev m : ℕ
    m = span (k - row_count d) ds

    abbrev es : List Description
    es = runs_of (stream (drop (b + n) cs))

    there-too : take (n + m) (drop b bs) ≡ take (n + m) (drop b cs)
    there-too = rw (span-some k d ds z) at s

    front : take n (drop b cs) ≡ layout d
    front = sym (take-take n (n + m) (drop b cs) (omega arith)) ∙ ap (take n) (sym there-too)
        ∙ take-take n (n + m) (drop b bs) (omega arith) ∙ ap (take n) w.split ∙ take_at (layout d) (drop (b + n) bs) n refl

    split-there : drop b cs ≡ layout d ++ drop (b + n) cs
    split-there = sym (take-append-drop n (drop b cs)) ∙ ap (λ (x : List ℕ). x ++ drop n (drop b cs)) front
        ∙ ap (λ (x : List ℕ). layout d ++ x) (drop-drop n b cs)

    runs-there : runs_of (stream (drop b cs)) ≡ d ∷ es
    runs-there = ap (λ (x : List ℕ). runs_of (stream x)) split-there
        ∙ ap runs_of (stream-cons d (drop (b + n) cs) w.valid (below-drop 256 (b + n) cs g)) ∙ runs_after d (stream (drop (b + n) cs))

    rest-same : take m (drop (b + n) bs) ≡ take m (drop (b + n) cs)
    rest-same = ap (take m) (sym (drop-drop n b bs)) ∙ part_same n m (drop b bs) (drop b cs) there-too ∙ ap (take m) (drop-drop n b cs)

    one_more : Agree (b + n) (k - row_count d) ds es → Agree b k (d ∷ ds) (runs_of (stream (drop b cs)))
    one_more a = rw runs-there (record {
      enough = omega (arith, a.enough, total-cons d es);
      place = place (dec_lt k (row_count d));
      rows = rows;
    })
      where
        place : Dec (k < row_count d) → position_of b k (d ∷ es) ≡ position_of b k (d ∷ ds)
        place (yes l) = in-first b k d es l ∙ sym (in-first b k d ds l)
        place (no l) = past_first b k d es (omega arith) ∙ a.place ∙ sym (past_first b k d ds (omega arith))

        rows : take k (joined_rows signed (d ∷ es)) ≡ take k (joined_rows signed (d ∷ ds))
        rows = rw (rows-cons signed d es, rows-cons signed d ds)
            (front_same k (i64_rows signed d) (joined_rows signed es) (joined_rows signed ds) (rw (i64-count signed d) a.rows))

  pub agree : (ds : List Description) (b k : ℕ) → runs_of (stream (drop b bs)) ≡ ds → k ≤ total_rows ds
      → take (span k ds) (drop b bs) ≡ take (span k ds) (drop b cs) → Agree b k ds (runs_of (stream (drop b cs)))
  agree [] b k e l s = no_rows b k [] (omega (arith, no-total)) e
  agree (d ∷ ds) b k e l s = go (dec_lt 0 k) (agree ds (b + length (layout d)) (k - row_count d))
    where
      go : Dec (0 < k)
          → (runs_of (stream (drop (b + length (layout d)) bs)) ≡ ds → k - row_count d ≤ total_rows ds
          → take (span (k - row_count d) ds) (drop (b + length (layout d)) bs)
          ≡ take (span (k - row_count d) ds) (drop (b + length (layout d)) cs)
          → Agree (b + length (layout d)) (k - row_count d) ds (runs_of (stream (drop (b + length (layout d)) cs))))
          → Agree b k (d ∷ ds) (runs_of (stream (drop b cs)))
      go (yes z) ih =
          let w = begins bs b d ds h e in
          one_more b k d ds z w s (ih w.rest (omega (arith, total-cons d ds)) (rest-same b k d ds z w s))
      go (no z) ih = no_rows b k (d ∷ ds) (omega arith) e

  -- a position that is made plain with the same bytes
  pub stays : (p q : Position) → made_plain bs p ≡ at q
      → take (span p.skip (runs_of (reading_at bs p))) (drop p.run bs)
      ≡ take (span p.skip (runs_of (reading_at bs p))) (drop p.run cs)
      → (made_plain cs p ≡ at q)
      × (take p.skip (joined_rows signed (runs_of (reading_at cs p))) ≡ take p.skip (joined_rows signed (runs_of (reading_at bs p))))
  stays p q e s =
      let (l, f) = plain-inv bs p e in
      let a = agree (runs_of (reading_at bs p)) p.run p.skip refl l s in
      (plain-if cs p a.enough ∙ ap at (a.place ∙ f), a.rows)

-- ---- positions that are the same made plain reach the same byte

module _ (bs : List ℕ) (h : AllBelow 256 bs) where
  pub reaches : (ds : List Description) (b k : ℕ) → runs_of (stream (drop b bs)) ≡ ds → k ≤ total_rows ds → (q : Position)
      → position_of b k ds ≡ q → b + span k ds ≡ q.run + span q.skip (runs_of (stream (drop q.run bs)))
  reaches [] b k e l q f =
      let z : k ≡ 0 = omega (arith, no-total) in
      rw (sym f ∙ no_run b k, z) (ap (λ (x : ℕ). b + x) (span_none [] ∙ sym (span_none (runs_of (stream (drop b bs))))))
  reaches (d ∷ ds) b k e l q f = go (dec_lt k (row_count d)) (reaches ds (b + length (layout d)) (k - row_count d))
    where
      go : Dec (k < row_count d)
          → (runs_of (stream (drop (b + length (layout d)) bs)) ≡ ds → k - row_count d ≤ total_rows ds → (q : Position)
          → position_of (b + length (layout d)) (k - row_count d) ds ≡ q
          → b + length (layout d) + span (k - row_count d) ds ≡ q.run + span q.skip (runs_of (stream (drop q.run bs))))
          → b + span k (d ∷ ds) ≡ q.run + span q.skip (runs_of (stream (drop q.run bs)))
      go (yes z) ih = rw (sym f ∙ in-first b k d ds z) (ap (λ (x : List Description). b + span k x) (sym e))
      go (no z) ih =
          let w = begins bs b d ds h e in
          let o = (row-bounds d w.valid).0 in
          let x = ih w.rest (omega (arith, total-cons d ds)) q (sym (past_first b k d ds (omega arith)) ∙ f) in
          omega (arith, x, span-some k d ds (omega (arith, o)))

  pub reach : (p q : Position) → made_plain bs p ≡ at q
      → p.run + span p.skip (runs_of (reading_at bs p)) ≡ q.run + span q.skip (runs_of (reading_at bs q))
  reach p q e = let (l, f) = plain-inv bs p e in reaches (runs_of (reading_at bs p)) p.run p.skip refl l q f
