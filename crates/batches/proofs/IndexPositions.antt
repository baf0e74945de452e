-- The runs before an entry's are skipped as a whole, which changes no batch: so the entry that holds a row gives the row's position.
-- Assumes nothing.
use mathlib.Core.Path.{◌≡◌, refl, sym, ap, ◌∙◌}
use Prim.Native.Nat.{ℕ, ◌+◌, ◌-◌}
use native.Mathlib.Omega.{arith}
use mathlib.Core.Bool.{Bool}
use mathlib.Core.List.{List, [], ◌∷◌, ◌++◌, Memᴰ}
use lib.ListN.{length, drop}
use Rattle.format.specs.Digits.{AllBelow}
use Rattle.format.specs.Runs.{Description, row_count, layout, joined}
use Rattle.format.specs.Streams.{Reading, whole, after, stream, runs_of, total_rows, joined_rows}
use Rattle.format.proofs.StreamRoom.{stream-is}
use Rattle.format.proofs.Tests.{never}
use Rattle.index.specs.Entries.{Result, gives, Entry}
use Rattle.index.specs.Theorems.{IsIndex, Holds}
use Rattle.index.proofs.Held.{Held, held, unheld, what-held, holder-of}
use Rattle.index.proofs.Index.{lookup-holds, index-proved}
use Rattle.batches.specs.Batches.{batch}
use Rattle.batches.specs.BatchTheorems.{EntryHolds, ThroughIndex}
use Rattle.index.proofs.Entries.{total-cons}
use Rattle.batches.proofs.RowPositions.{position}
use Rattle.batches.proofs.BatchRuns.{batch-over}
use Rattle.batches.proofs.NextPosition.{joined-long, no-total, no_bytes}
use Rattle.batches.proofs.RunAtByte.{read-on}

-- ---- whole runs that are skipped

module _ (bs : List ℕ) (h : AllBelow 256 bs) (signed : Bool) (n : ℕ) where
  skip_all : (ds cs : List Description) (at skip : ℕ) → stream (drop at bs) ≡ whole (ds ++ cs)
      → batch signed n bs (position at (total_rows ds + skip)) ≡ batch signed n bs (position (at + length (joined ds)) skip)
  skip_all [] cs at skip e =
      let a : total_rows [] + skip ≡ skip = omega (arith, no-total) in
      let b : at + length (joined []) ≡ at = omega (arith, no_bytes) in
      rw (a, b)
  skip_all (d ∷ ds) cs at skip e =
      let a : total_rows (d ∷ ds) + skip - row_count d ≡ total_rows ds + skip = omega (arith, total-cons d ds) in
      let b : at + length (layout d) + length (joined ds) ≡ at + length (joined (d ∷ ds)) = omega (arith, joined-long d ds) in
      let f : stream (drop (at + length (layout d)) bs) ≡ whole (ds ++ cs) = read-on bs at h d (whole (ds ++ cs)) e in
      batch-over signed n at (total_rows (d ∷ ds) + skip) d (omega (arith, total-cons d ds)) bs (e ∙ sym (ap (after d) f))
      ∙ ap (λ (k : ℕ). batch signed n bs (position (at + length (layout d)) k)) a
      ∙ skip_all ds cs (at + length (layout d)) skip f
      ∙ ap (λ (k : ℕ). batch signed n bs (position k skip)) b

-- ---- THROUGH AN INDEX

module _ (signed : Bool) (bs : List ℕ) (h : AllBelow 256 bs) (es : List Entry) (e : Entry) (r : ℕ) (i : IsIndex bs es)
    (m : Memᴰ e es) (k : Holds e r) where
  is_held : Held r 0 0 i.runs (gives e)
  is_held = rw (holder-of r 0 0 i.runs e (rw i.are at m) k) at (what-held r 0 0 i.runs (omega arith))

  is_whole : stream bs ≡ whole i.runs
  is_whole = ap stream i.bytes ∙ stream-is i.runs i.valid

  same-batch : (n : ℕ) {x : Result Entry} → x ≡ gives e → Held r 0 0 i.runs x
      → batch signed n bs (position e.at (r - e.first)) ≡ batch signed n bs (position 0 r)
  same-batch n q (held ds cs d {e = c} s f a w g) =
      let y : c ≡ e = cc in
      let a : 0 + length (joined ds) ≡ e.at = rw (sym y) (sym a) in
      let b : total_rows ds + (r - e.first) ≡ r = omega (arith, k.from, f, ap (λ (z : Entry). z.first) y) in
      rw (← a) (sym (rw b at (skip_all bs h signed n ds (d ∷ cs) 0 (r - e.first) (is_whole ∙ ap whole s))))
  same-batch n q (unheld f) = never (cc)

  pub entry-holds : EntryHolds signed bs es e r i
  entry-holds = record { rows = read; batches = λ n. same-batch n refl is_held }
    where
      read : drop (r - e.first) (joined_rows signed (runs_of (stream (drop e.at bs)))) ≡ drop r (joined_rows signed i.runs)
      read =
          let (ds, f, g) = ((index-proved bs h).the-reading signed 0 es r).through i e (((lookup-holds bs h es r).exactly e).1 (i, m, k)) in
          ap (λ (x : Reading). drop (r - e.first) (joined_rows signed (runs_of x))) f ∙ sym g

pub through-index : ThroughIndex
through-index signed bs es e r h = entry-holds signed bs h es e r
