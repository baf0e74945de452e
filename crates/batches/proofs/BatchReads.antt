-- A batch as it is read: the rows laid so far and the batch of the places that are left make the whole batch. Assumes nothing.
use mathlib.Core.Path.{◌≡◌, sym, ap, ◌∙◌}
use Prim.Native.Nat.{ℕ, ◌+◌, ◌-◌, ◌≤◌}
use native.Mathlib.Omega.{arith}
use mathlib.Core.Bool.{Bool}
use mathlib.Core.List.{List, ◌++◌, append-nil}
use lib.ListN.{length, take, drop, length-append, length-take, length-drop, take-append-drop}
use lib.Seq.{drop-drop, length-take-le}
use lib.IntN.{ℤ}
use Rattle.format.specs.Digits.{AllBelow}
use Rattle.format.specs.Runs.{Description, layout}
use Rattle.format.specs.Parse.{Parsed}
use Rattle.format.specs.Streams.{Reading, stream}
use Rattle.util.proofs.Grow.{back_is}
use Rattle.batches.specs.Batches.{Position, RowBatch, rows_left, first_rows}
use Rattle.batches.specs.BatchPromise.{batch_read_as}
use Rattle.batches.specs.BatchSteps.{Reads, BatchFrom, more}
use Rattle.batches.specs.declared.BatchRead.{BatchRead}
use Rattle.batches.proofs.RowPositions.{position, before, bare}
use Rattle.batches.proofs.BatchRuns.{first-whole, first-broken, first-zero}
use Rattle.batches.proofs.RunAtByte.{There, no_bytes, a-run, a-refusal, there}

-- ---- a batch of which the first k rows are laid

module _ (g g' : RowBatch) (out₀ out : List ℤ) (k : ℕ) (l : k ≤ length out) (e : drop k out ≡ drop k out₀)
    (f : g ≡ before (take k out) g') where
  front_long : length (take k out ++ g'.rows) ≡ k + length g'.rows
  front_long = length-append (take k out) g'.rows ∙ ap (λ (n : ℕ). n + length g'.rows) (length-take-le k out l)

  kept-so : (n : ℕ) → drop (k + n) out ≡ drop (k + n) out₀
  kept-so n = sym (drop-drop n k out) ∙ ap (λ (x : List ℤ). drop n x) e ∙ drop-drop n k out₀

  -- a call has laid the rest into the places that are left
  pub reads_more : {part : List ℤ} {r : BatchRead} → Reads g' (drop k out) part r
      → Reads g out₀ (take k out ++ (part ++ drop (length out - k) (drop k out))) (more k r)
  reads_more {part} w = rw f (record {
    answer = rw (w.answer, front_long);
    places = rw front_long (back_is out part g'.rows k (length g'.rows) w.places
        ∙ ap (λ (x : List ℤ). (take k out ++ g'.rows) ++ x) (kept-so (length g'.rows)));
  })

  -- there is no rest
  pub reads_all : (p : ℕ) → g' ≡ bare p → Reads g out₀ out (batch_read_as k p 0)
  reads_all p z =
      let h : g ≡ record { rows = take k out; next = position p 0 } = f ∙ ap (before (take k out)) z ∙ rw (append-nil (take k out)) in
      rw h (record {
        answer = rw (length-take-le k out l);
        places = rw (length-take-le k out l, ← e) (sym (take-append-drop k out));
      })

-- a batch has no more rows than there are places, and leaves as many
module _ (signed : Bool) (p : Position) (m : Reading) {out out' : List ℤ} {r : BatchRead}
    (w : Reads (first_rows signed (length out) p m) out out' r) where
  rows_few : length (take (length out) (rows_left signed p m)) ≤ length out
  rows_few = omega (arith, length-take (length out) (rows_left signed p m))

  pub reads-few : r.rows.rows ≤ length out
  reads-few = omega (arith, rows_few, ap (λ (x : BatchRead). x.rows.rows) w.answer)

  pub reads-long : length out' ≡ length out
  reads-long =
      let rows = take (length out) (rows_left signed p m) in
      ap length w.places ∙ omega (arith, rows_few, length-append rows (drop (length rows) out), length-drop (length rows) out)

-- .. of the stream
module _ {s : List ℕ} {p : Position} {signed : Bool} {out out' : List ℤ} {r : BatchRead} (w : BatchFrom s p signed out out' r) where
  pub batch-few : r.rows.rows ≤ length out
  batch-few = reads-few signed p (stream (drop p.run s)) w.read

  pub batch-long : length out' ≡ length out
  batch-long = reads-long signed p (stream (drop p.run s)) w.read

-- with no place left, nothing is given
pub none_left : (s : List ℕ) (signed : Bool) (p : ℕ) → AllBelow 256 s → first_rows signed 0 (position p 0) (stream (drop p s)) ≡ bare p
none_left s signed p h = go (there s p h)
  where
    go : {m : Parsed Description} → There s p m → first_rows signed 0 (position p 0) (stream (drop p s)) ≡ bare p
    go (no_bytes z q) = ap (first_rows signed 0 (position p 0)) q ∙ first-whole signed 0 p
    go (a-run {d} t) = ap (first_rows signed 0 (position p 0)) t.onward
        ∙ first-zero signed p d (stream (drop (p + length (layout d)) s)) t.some
    go (a-refusal {r} q z) = ap (first_rows signed 0 (position p 0)) q ∙ first-broken signed 0 p r (drop p s)
