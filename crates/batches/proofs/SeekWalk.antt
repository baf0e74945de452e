-- The walk that seeks a row: a run that is skipped as a whole changes no batch, so each turn leaves a position of the same row.
-- Assumes nothing.
use mathlib.Core.Path.{◌≡◌, ◌∙◌}
use Prim.Native.Nat.{ℕ, ◌+◌, ◌-◌, ◌<◌, ◌≤◌}
use native.Mathlib.Omega.{arith}
use native.Mathlib.Nat.{add-zero}
use mathlib.Core.Bool.{Bool}
use mathlib.Core.List.{List, []}
use lib.ListN.{drop, length-drop}
use borrow.Author.Tests.{le-leb, lt-ltb}
use Rattle.format.specs.Answers.{refusing}
use Rattle.format.specs.Runs.{joined}
use Rattle.format.specs.Streams.{whole, stream, total_rows}
use Rattle.format.specs.declared.Refusal.{Refusal}
use Rattle.format.specs.declared.Run.{Run}
use Rattle.batches.specs.Batches.{Position, refuses, batch}
use Rattle.batches.specs.BatchSteps.{SameRow}
use Rattle.batches.proofs.RowPositions.{position}
use Rattle.batches.proofs.BatchRuns.{batch-over}
use Rattle.batches.proofs.RunAtByte.{Ran, Broke}

-- the walk has come to a place, with rows left to skip
module _ {s : List ℕ} {p : Position} {place left : ℕ} (w : SameRow s p (position place left)) where
  pub passed : {r : Run} → Ran s place r → r.rows.rows ≤ left → SameRow s p (position (place + r.consumed.bytes) (left - r.rows.rows))
  passed o l = record {
    same = λ signed n. w.same signed n
        ∙ rw (o.rows_are, o.bytes-are) (batch-over signed n place left o.run (omega (arith, o.rows_are)) s o.stands.onward);
  }

  pub refused-there : {f : Refusal} → Broke s place f → (signed : Bool) (n : ℕ) → batch signed n s p ≡ refuses f
  unfolding batch total_rows joined
  refused-there q signed n = w.same signed n ∙ rw (q.read, q.refusal_is, add-zero, length-drop, le-leb 0 left (omega arith))

  pub no-such-row : stream (drop place s) ≡ whole [] → 0 < left → (signed : Bool) (n : ℕ) → batch signed n s p ≡ refuses (refusing 16 0)
  unfolding batch total_rows
  no-such-row e z signed n = w.same signed n ∙ rw (e, le-leb 0 left (omega arith), lt-ltb 0 left z)
