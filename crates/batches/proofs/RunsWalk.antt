-- The walk that reads runs into their places: each turn moves one run from the batch that is still to come to the rows so far.
-- Assumes nothing.
use mathlib.Core.Path.{◌≡◌, refl, sym, ap, ◌∙◌}
use mathlib.Core.Logic.{◌≢◌}
use Prim.Native.Nat.{ℕ, ◌+◌, ◌-◌, ◌≤◌}
use native.Mathlib.Omega.{arith}
use native.Mathlib.Nat.{sub-zero, le_refl}
use mathlib.Core.Bool.{Bool}
use mathlib.Core.List.{List, [], ◌∷◌, ◌++◌, append-nil, append_assoc}
use lib.ListN.{length, take, drop, length-drop, take-append-drop, drop_of_length-le}
use lib.IntN.{ℤ}
use Rattle.format.specs.Digits.{AllBelow}
use Rattle.format.specs.Runs.{Description, row_count, layout}
use Rattle.format.specs.Rows.{i64_rows}
use Rattle.format.specs.Promises.{RunRead}
use Rattle.format.specs.Streams.{whole, stream}
use Rattle.format.specs.declared.Refusal.{Refusal}
use Rattle.format.specs.declared.Run.{Run}
use Rattle.format.specs.Answers.{Answer}
use Rattle.format.proofs.Reading.{NoRun}
use Rattle.format.proofs.Rows.{i64-count}
use Rattle.util.proofs.Grow.{back_is, front-is, kept_by, long-by}
use Rattle.batches.specs.Batches.{RowBatch, first_rows}
use Rattle.batches.specs.BatchPromise.{batch_read_as}
use Rattle.batches.specs.BatchSteps.{RunPart, RunHolds, Reads, BatchFrom, more}
use Rattle.batches.specs.declared.BatchRead.{BatchRead}
use Rattle.batches.proofs.RowPositions.{position, row_position, before, bare}
use Rattle.batches.proofs.BatchRuns.{first-cut, first_on, first-whole, first-broken}
use Rattle.batches.proofs.RunAtByte.{Fits, TooLong, Stops, Turn, turn, rows-read, unread}
use Rattle.batches.proofs.BatchReads.{reads_more, reads_all, reads-few, none_left}

-- the batch of n places from a byte on
abbrev given : List ℕ → Bool → ℕ → ℕ → RowBatch
given s signed n p = first_rows signed n (position p 0) (stream (drop p s))

pub record Walked (s : List ℕ) (at : ℕ) (signed : Bool) (out₀ out : List ℤ) (p k : ℕ) : Type 0 where
  pub long : length out ≡ length out₀
  pub few : k ≤ length out₀
  pub so_far : given s signed (length out₀) at ≡ before (take k out) (given s signed (length out₀ - k) p)
  pub kept : drop k out ≡ drop k out₀

pub walked-first : (s : List ℕ) (at : ℕ) (signed : Bool) (out : List ℤ) → Walked s at signed out out at 0
walked-first s at signed out = record { long = refl; few = omega arith; so_far = rw (sub-zero (length out)); kept = refl }

module _ {s : List ℕ} {at : ℕ} {signed : Bool} {out₀ out : List ℤ} {p k : ℕ} (w : Walked s at signed out₀ out p k) where
  abbrev left : ℕ
  left = length out₀ - k

  room : length (drop k out) ≡ left
  room = length-drop k out ∙ ap (λ (n : ℕ). n - k) w.long

  -- the list, after the part that was lent came back
  abbrev back : List ℤ → List ℤ
  back part = take k out ++ (part ++ drop (length out - k) (drop k out))

  -- ---- a call of the run reader
  module _ {part : List ℤ} {a : Answer} (g : RunRead s p signed (drop k out) part a) where
    pub turn_is : AllBelow 256 s → Turn s p left a
    turn_is h = turn s p left a h (rw room at g.answer)

    pub same-places : NoRun a → back part ≡ out
    same-places u =
        let z : drop (length out - k) (drop k out) ≡ [] =
        drop_of_length-le (drop k out) {i = length out - k} (rw length-drop (le_refl _)) in
        rw (unread s p signed (drop k out) part a g u, z, append-nil, take-append-drop k out)

    module _ {r : Run} (o : Fits s p left r) where
      abbrev d : Description
      d = o.ran.run

      abbrev n : ℕ
      n = r.rows.rows

      back-so : back part ≡ (take k out ++ i64_rows signed d) ++ drop (k + n) out
      back-so =
          back_is out part (i64_rows signed d) k n
          (rows-read s p signed (drop k out) part a g d o.ran.stands (omega (arith, o.fits, room))
          ∙ ap (λ (x : ℕ). i64_rows signed d ++ drop x (drop k out)) (sym o.ran.rows_are))

      rows_long : length (i64_rows signed d) ≡ n
      rows_long = i64-count signed d ∙ sym o.ran.rows_are

      next-batch : given s signed left p ≡ before (i64_rows signed d) (given s signed (length out₀ - (k + n)) (p + r.consumed.bytes))
      next-batch =
          let e : left - (row_count d - 0) ≡ length out₀ - (k + n) = omega (arith, o.ran.rows_are) in
          ap (first_rows signed left (position p 0)) o.ran.stands.onward
          ∙ first_on signed left p 0 d o.ran.stands.some (omega (arith, o.fits)) (stream (drop (p + length (layout d)) s))
          ∙ ap (λ (x : ℕ). before (i64_rows signed d) (given s signed x (p + length (layout d)))) e
          ∙ ap (λ (x : ℕ). before (i64_rows signed d) (given s signed (length out₀ - (k + n)) (p + x))) (sym o.ran.bytes-are)

      pub walked-run : Walked s at signed out₀ (back part) (p + r.consumed.bytes) (k + n)
      walked-run =
          let c : k ≤ length out = omega (arith, w.few, w.long) in
          let f : k + n ≤ length out = omega (arith, o.fits, o.ran.rows_are, w.few, w.long) in
          record {
            long = long-by out (back part) (i64_rows signed d) k n c rows_long back-so f ∙ w.long;
            few = omega (arith, w.long);
            so_far =
                w.so_far ∙ ap (before (take k out)) next-batch
                ∙ rw (front-is out (back part) (i64_rows signed d) k n c rows_long back-so, append_assoc);
            kept = kept_by out (back part) (i64_rows signed d) k n c rows_long back-so out₀ w.kept;
          }

  -- ---- the end of the walk
  abbrev Stopped : Type 0
  Stopped = BatchFrom s (position at 0) signed out₀ out (batch_read_as k p 0)

  pub walked_stop : given s signed left p ≡ bare p → Stopped
  walked_stop e = record {
    read = reads_all (given s signed (length out₀) at) (given s signed left p) out₀ out k (omega (arith, w.few, w.long)) w.kept
        w.so_far p e;
  }

  pub walked-full : AllBelow 256 s → length out ≤ k → Stopped
  walked-full h l =
      let z : left ≡ 0 = omega (arith, w.long) in
      walked_stop (rw z (none_left s signed p h))

  pub walked_end : stream (drop p s) ≡ whole [] → Stopped
  walked_end e = walked_stop (ap (first_rows signed left (position p 0)) e ∙ first-whole signed left p)

  pub walked-broken : {f : Refusal} → Stops s p left f → f.number ≢ 8 → Stopped
  walked-broken q z =
      let (r, e) = q.broke z in
      walked_stop (ap (first_rows signed left (position p 0)) e ∙ first-broken signed left p r (drop p s))

  -- the last run is cut
  module _ (t : TooLong s p left) where
    pub cut_holds : RunHolds s (row_position p 0)
    cut_holds = record { run = t.run; stands = t.stands; skips = t.stands.some }

    pub cut-few : {part : List ℤ} {r : BatchRead} → RunPart s (row_position p 0) signed (drop k out) part r → k + r.rows.rows ≤ length out
    cut-few q =
        let f = reads-few signed (position p 0) (whole (t.run ∷ [])) (q.read t.run t.stands) in
        omega (arith, f, room, w.few, w.long)

    same-cut : first_rows signed left (position p 0) (whole (t.run ∷ [])) ≡ given s signed left p
    same-cut =
        first-cut signed left p 0 t.run t.stands.some (omega (arith, t.long)) (whole [])
        ∙ sym (first-cut signed left p 0 t.run t.stands.some (omega (arith, t.long))
        (stream (drop (p + length (layout t.run)) s)))
        ∙ sym (ap (first_rows signed left (position p 0)) t.stands.onward)

    pub walked-cut : {part : List ℤ} {r : BatchRead} → RunPart s (row_position p 0) signed (drop k out) part r
        → BatchFrom s (position at 0) signed out₀ (back part) (more k r)
    walked-cut {part} {r} q =
        let own : Reads (given s signed left p) (drop k out) part r = rw (← same-cut, ← room) (q.read t.run t.stands) in
        record {
          read = reads_more (given s signed (length out₀) at) (given s signed left p) out₀ out k (omega (arith, w.few, w.long))
              w.kept w.so_far own;
        }
