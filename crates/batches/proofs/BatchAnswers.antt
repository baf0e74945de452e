-- The call's answer and places, by what its steps found: each case is one outcome of `batch`. Assumes nothing.
use mathlib.Core.Path.{◌≡◌, refl, sym, ap, ◌∙◌}
use Prim.Native.Nat.{ℕ, ◌+◌, ◌<◌}
use native.Mathlib.Omega.{arith}
use mathlib.Core.Bool.{Bool}
use mathlib.Core.List.{List, [], ◌∷◌}
use lib.ListN.{length, take, drop, length-take}
use lib.IntN.{ℤ}
use borrow.Author.Tests.{lt-leb}
use Rattle.format.specs.Runs.{layout}
use Rattle.format.specs.Streams.{Reading, whole, stream, runs_of, total_rows}
use Rattle.format.specs.declared.ByteOffset.{ByteOffset}
use Rattle.format.specs.declared.Refusal.{Refusal}
use Rattle.format.specs.declared.Run.{Run}
use Rattle.batches.specs.Batches.{BatchOutcome, gives, ended, refuses, rows_left, first_rows, batch_of, batch}
use Rattle.batches.specs.BatchPromise.{Batch, position_in, batch_answer, laid_over, places_after, RowsRead}
use Rattle.batches.specs.BatchSteps.{RunHolds, SameRow, BatchFrom}
use Rattle.batches.specs.declared.RowPosition.{RowPosition}
use Rattle.batches.specs.declared.BatchRead.{BatchRead}
use Rattle.std.specs.Prelude.{Some, None, Ok, Err}
use Rattle.batches.proofs.RowPositions.{position}
use Rattle.batches.proofs.BatchRuns.{held-some}
use Rattle.batches.proofs.RunAtByte.{Ran, Broke}
use Rattle.batches.proofs.BatchCalls.{from-long}
use Rattle.batches.proofs.SeekWalk.{refused-there}

-- a run that holds the row gives a batch
pub some-given : {s : List ℕ} {q : RowPosition} (signed : Bool) (n : ℕ) → RunHolds s q
    → batch signed n s (position_in q) ≡ gives (first_rows signed n (position_in q) (stream (drop q.run.bytes s)))
unfolding batch
some-given {s} {q} signed n y =
    let rest = stream (drop (q.run.bytes + length (layout y.run)) s) in
    ap (batch_of signed n (position_in q)) y.stands.onward
    ∙ held-some signed n q.run.bytes q.skip.rows y.run y.skips rest
    ∙ sym (ap (λ m. gives (first_rows signed n (position_in q) m)) y.stands.onward)

-- ---- the answers

module _ (s : List ℕ) (p : RowPosition) (signed : Bool) (out : List ℤ) where
  abbrev outcome : BatchOutcome
  outcome = batch signed (length out) s (position_in p)

  pub answered-refused : (f : Refusal) → outcome ≡ refuses f → RowsRead s p signed out out (Err f)
  answered-refused f e = record { answer = sym (ap batch_answer e); places = sym (ap (places_after out) e) }

  pub answered-ended : outcome ≡ ended → RowsRead s p signed out out (Ok None)
  answered-ended e = record { answer = sym (ap batch_answer e); places = sym (ap (places_after out) e) }

  pub answered-rows : {out' : List ℤ} {r : BatchRead} → BatchFrom s (position_in p) signed out out' r
      → outcome ≡ gives (first_rows signed (length out) (position_in p) (stream (drop p.run.bytes s)))
      → RowsRead s p signed out out' (Ok (Some r))
  answered-rows g e = record {
    answer = ap (λ (b : BatchRead). Ok (Some b)) g.read.answer ∙ sym (ap batch_answer e);
    places = g.read.places ∙ sym (ap (places_after out) e);
  }

-- a call at another position of the same row
pub answered-there : {s : List ℕ} {p q : RowPosition} {signed : Bool} {out out' : List ℤ} {r : Batch}
    → SameRow s (position_in p) (position_in q) → RowsRead s q signed out out' r → RowsRead s p signed out out' r
answered-there {s} {p} {q} {signed} {out} w g = record {
  answer = g.answer ∙ sym (ap batch_answer (w.same signed (length out)));
  places = g.places ∙ sym (ap (places_after out) (w.same signed (length out)));
}

-- ---- the rows from a byte on

-- without rows the places are as they were
none-laid : (rows out : List ℤ) → length rows ≡ 0 → laid_over rows out ≡ out
none-laid [] out e = refl
none-laid (x ∷ rows) out e = absurd (omega arith)

module _ {s : List ℕ} {at : ByteOffset} {signed : Bool} {out out' : List ℤ} {r : BatchRead}
    (w : BatchFrom s (position at.bytes 0) signed out out' r) where
  abbrev here : RowPosition
  here = record { run = at; skip = record { rows = 0 } }

  abbrev reading : Reading
  reading = stream (drop at.bytes s)

  pub begun-some : 0 < r.rows.rows → RowsRead s here signed out out' (Ok (Some r))
  unfolding batch
  begun-some l =
      let rows = rows_left signed (position at.bytes 0) reading in
      let some : 0 < total_rows (runs_of reading) =
      omega (
        arith,
        ap (λ (x : BatchRead). x.rows.rows) w.read.answer,
        length-take (length out) rows,
        from-long signed s (position at.bytes 0),
      ) in
      answered-rows s here signed out w (rw (lt-leb (total_rows (runs_of reading)) 0 some))

  pub begun-run : {x : Run} → Ran s at.bytes x → RowsRead s here signed out out' (Ok (Some r))
  begun-run o = answered-rows s here signed out w
      (some-given signed (length out) (record { run = o.run; stands = o.stands; skips = o.stands.some }))

  module _ (z : r.rows.rows ≡ 0) where
    unlaid : out ≡ out'
    unlaid =
        let rows = take (length out) (rows_left signed (position at.bytes 0) reading) in
        sym (w.read.places ∙ none-laid rows out (omega (arith, ap (λ (x : BatchRead). x.rows.rows) w.read.answer)))

    pub begun-refused : {f : Refusal} → Broke s at.bytes f → RowsRead s here signed out out' (Err f)
    begun-refused {f} q =
        rw (← unlaid) (answered-refused s here signed out f
        (refused-there (record { same = λ b n. refl }) q signed (length out)))

    pub begun-ended : reading ≡ whole [] → RowsRead s here signed out out' (Ok None)
    unfolding batch total_rows
    begun-ended e = rw (← unlaid) (answered-ended s here signed out (rw e))
