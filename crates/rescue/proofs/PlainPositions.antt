-- A position made plain goes by the run that stands at its byte; and what is read from it is what is read from the position that it was
-- made of. Assumes nothing.
use mathlib.Core.Path.{◌≡◌, ap, ◌∙◌, subst}
use Prim.Native.Nat.{ℕ, ◌+◌, ◌-◌, ◌<◌, ◌≤◌, min}
use native.Mathlib.Omega.{arith}
use native.Mathlib.Decide.{dec_le}
use native.Mathlib.Nat.{sub-zero}
use mathlib.Core.Bool.{Bool, true}
use mathlib.Core.List.{List, [], ◌∷◌}
use lib.ListN.{length, drop}
use lib.Dec.{leb}
use borrow.Author.Tests.{le-leb, lt-leb}
use Rattle.format.specs.Digits.{AllBelow}
use Rattle.format.specs.Fields.{pick}
use Rattle.format.specs.Runs.{Description, row_count, layout}
use Rattle.format.specs.Parse.{Parsed}
use Rattle.format.specs.Streams.{Reading, stream, runs_of, total_rows}
use Rattle.format.specs.declared.Run.{Run}
use Rattle.index.proofs.Entries.{total-cons}
use Rattle.batches.specs.Batches.{Position, position_of, rows_left, count_left, reading_at}
use Rattle.batches.specs.BatchSteps.{Stands}
use Rattle.batches.proofs.RowPositions.{runs_after, in-first, past_first, no_run}
use Rattle.batches.proofs.NextPosition.{no-total, onward}
use Rattle.batches.proofs.RunAtByte.{There, no_bytes, a-run, a-refusal, there, Ran}
use Rattle.rescue.specs.Rescue.{position, PlainPosition, at, nowhere, made_plain}
use Rattle.rescue.specs.RescueTheorems.{EveryPosition}

-- ---- there are as many rows as are to be skipped, or not

module _ (bs : List ℕ) (p : Position) where
  abbrev runs : List Description
  runs = runs_of (reading_at bs p)

  pub plain-if : p.skip ≤ total_rows runs → made_plain bs p ≡ at (position_of p.run p.skip runs)
  unfolding made_plain
  plain-if h = rw (le-leb _ _ h)

  pub plain-not : total_rows runs < p.skip → made_plain bs p ≡ nowhere
  unfolding made_plain
  plain-not h = rw (lt-leb _ _ h)

pub plain-inv : (bs : List ℕ) (p : Position) {q : Position} → made_plain bs p ≡ at q
    → (p.skip ≤ total_rows (runs_of (reading_at bs p))) × (position_of p.run p.skip (runs_of (reading_at bs p)) ≡ q)
plain-inv bs p {q} e = go (dec_le p.skip (total_rows (runs bs p)))
  where
    go : Dec (p.skip ≤ total_rows (runs bs p)) → (p.skip ≤ total_rows (runs bs p)) × (position_of p.run p.skip (runs bs p) ≡ q)
    go (yes l) = (l, cc (plain-if bs p l))
    go (no l) = let z : ◌≡◌ {A = ℕ} 0 1 = cc (plain-not bs p (omega arith)) in absurd (omega arith)

pub nowhere-inv : (bs : List ℕ) (p : Position) → made_plain bs p ≡ nowhere → total_rows (runs_of (reading_at bs p)) < p.skip
nowhere-inv bs p e = go (dec_le p.skip (total_rows (runs bs p)))
  where
    go : Dec (p.skip ≤ total_rows (runs bs p)) → total_rows (runs bs p) < p.skip
    go (yes l) = let z : ◌≡◌ {A = ℕ} 0 1 = cc (plain-if bs p l) in absurd (omega arith)
    go (no l) = omega arith

-- ---- by the run at the byte

module _ (s : List ℕ) (p skip : ℕ) where
  -- none, and some rows to skip
  pub plain-none : runs_of (stream (drop p s)) ≡ [] → 0 < skip → made_plain s (position p skip) ≡ nowhere
  plain-none e h = plain-not s (position p skip) (rw e (omega (arith, no-total)))

  module _ (d : Description) (t : Stands s p d) where
    abbrev rest : List Description
    rest = runs_of (stream (drop (p + length (layout d)) s))

    runs-are : runs_of (stream (drop p s)) ≡ d ∷ rest
    runs-are = ap runs_of t.onward ∙ runs_after d (stream (drop (p + length (layout d)) s))

    -- one that holds the row
    pub plain_in_lem : skip < row_count d → made_plain s (position p skip) ≡ at (position p skip)
    plain_in_lem h =
        plain-if s (position p skip) (rw runs-are (omega (arith, total-cons d rest)))
        ∙ ap at (ap (position_of p skip) runs-are ∙ in-first p skip d rest h)

    -- one that is passed
    pub plain-on : row_count d ≤ skip → made_plain s (position p skip) ≡ made_plain s (position (p + length (layout d)) (skip - row_count d))
    unfolding made_plain
    plain-on h = rw (runs-are, total-cons d rest, past_first p skip d rest h) (go (dec_le skip (row_count d + total_rows rest)))
      where
        q : PlainPosition
        q = at (position_of (p + length (layout d)) (skip - row_count d) rest)

        go : Dec (skip ≤ row_count d + total_rows rest)
            → pick (leb skip (row_count d + total_rows rest)) q nowhere ≡ pick (leb (skip - row_count d) (total_rows rest)) q nowhere
        go (yes l) = rw (le-leb skip (row_count d + total_rows rest) l, le-leb (skip - row_count d) (total_rows rest) (omega arith))
        go (no l) = rw (lt-leb skip (row_count d + total_rows rest) (omega arith), lt-leb (skip - row_count d) (total_rows rest) (omega arith))

-- no row to skip: whatever stands there
pub first-row : (s : List ℕ) (p : ℕ) → AllBelow 256 s → position_of p 0 (runs_of (stream (drop p s))) ≡ position p 0
first-row s p h = go (there s p h)
  where
    go : {m : Parsed Description} → There s p m → position_of p 0 (runs_of (stream (drop p s))) ≡ position p 0
    go (no_bytes z q) = ap (λ (m : Reading). position_of p 0 (runs_of m)) q ∙ no_run p 0
    go (a-run {d} t) = ap (position_of p 0) (runs-are s p 0 d t) ∙ in-first p 0 d (rest s p 0 d t) t.some
    go (a-refusal {r} q n) = ap (λ (m : Reading). position_of p 0 (runs_of m)) q ∙ no_run p 0

pub plain_still : (s : List ℕ) (p : ℕ) → AllBelow 256 s → made_plain s (position p 0) ≡ at (position p 0)
plain_still s p h = plain-if s (position p 0) (omega arith) ∙ ap at (first-row s p h)

-- a run that was measured is passed
pub plain-passed : (s : List ℕ) (p skip : ℕ) (r : Run) → Ran s p r → r.rows.rows ≤ skip
    → made_plain s (position p skip) ≡ made_plain s (position (p + r.consumed.bytes) (skip - r.rows.rows))
plain-passed s p skip r o l = rw (o.rows_are, o.bytes-are) (plain-on s p skip o.run o.stands (omega (arith, o.rows_are)))

-- ---- a position and what it is made plain: the same rows, as many, and the same positions of the rows after them

module _ (bs : List ℕ) (signed : Bool) where
  pub record SameRows (p q : Position) : Type 0 where
    pub within : q.skip ≤ total_rows (runs_of (reading_at bs q))
    pub rows : rows_left signed q (reading_at bs q) ≡ rows_left signed p (reading_at bs p)
    pub left : count_left q (reading_at bs q) ≡ count_left p (reading_at bs p)
    pub after : (j : ℕ)
        → position_of q.run (q.skip + j) (runs_of (reading_at bs q)) ≡ position_of p.run (p.skip + j) (runs_of (reading_at bs p))

  pub same_rows : (p : Position) {q : Position} → AllBelow 256 bs → made_plain bs p ≡ at q → SameRows p q
  same_rows p {q} h e =
      let (l, f) = plain-inv bs p e in
      let w = onward bs h signed p 0 l in
      let ds = runs_of (reading_at bs p) in
      let z : p.skip + min 0 (count_left p (reading_at bs p)) ≡ p.skip = omega arith in
      subst (λ (x : Position). SameRows p x) (ap (λ (k : ℕ). position_of p.run k ds) z ∙ f) (record {
        within = w.within;
        rows = w.rows;
        left = w.left ∙ sub-zero _;
        after = λ j. w.positions j ∙ ap (λ (k : ℕ). position_of p.run (k + j) ds) z;
      })

pub plain-twice : (bs : List ℕ) (p : Position) {q : Position} → AllBelow 256 bs → made_plain bs p ≡ at q → made_plain bs q ≡ at q
plain-twice bs p {q} h e =
    let v = same_rows bs true p h e in
    let y : q.skip ≡ q.skip + 0 = omega arith in
    let z : p.skip + 0 ≡ p.skip = omega arith in
    plain-if bs q v.within
    ∙ ap at (ap (λ (k : ℕ). position_of q.run k (runs bs q)) y ∙ v.after 0
    ∙ ap (λ (k : ℕ). position_of p.run k (runs bs p)) z ∙ (plain-inv bs p e).1)

pub every-position : EveryPosition
every-position bs b skip h = record {
  still = plain_still bs b h;
  held = plain_in_lem bs b skip;
  passed = plain-on bs b skip;
  unread = plain-none bs b skip;
  twice = λ q e. plain-twice bs (position b skip) h e;
}
