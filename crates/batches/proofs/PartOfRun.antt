-- One run read aside: the places hold its rows, so what is copied of them is the batch of that run alone.
-- Assumes nothing.
use Rattle.std.specs.Prelude.{Some, None, Ok, Err}
use mathlib.Core.Path.{◌≡◌, refl, sym, ap, ◌∙◌}
use Prim.Native.Nat.{ℕ, ◌+◌, ◌-◌, ◌<◌, ◌≤◌}
use native.Mathlib.Omega.{arith}
use mathlib.Core.Bool.{Bool, true, false}
use mathlib.Core.List.{List, [], ◌++◌}
use lib.ListN.{length, take, drop, length-append, take-append-drop}
use lib.Seq.{drop-append-le, take-append-le, take_all, take_at, length-take-le}
use lib.Dec.{ltb}
use lib.IntN.{ℤ}
use borrow.Author.Tests.{ltb-false}
use Rattle.format.specs.Fields.{two64}
use Rattle.format.specs.Runs.{Description, row_count, layout}
use Rattle.format.specs.Rows.{i64_rows}
use Rattle.format.specs.Parse.{unless, got, into}
use Rattle.format.specs.Streams.{whole}
use Rattle.format.specs.Promises.{run_of, answer_of, RunRead}
use Rattle.format.specs.declared.Refusal.{Refusal}
use Rattle.format.specs.declared.Run.{Run}
use Rattle.format.specs.Answers.{Answer}
use Rattle.format.proofs.Reading.{run-inj, run-not-refused}
use Rattle.format.proofs.Rows.{i64-count}
use Rattle.format.proofs.Runs.{got-inj}
use Rattle.format.proofs.Streams.{into-got}
use Rattle.format.proofs.Tests.{never}
use Rattle.batches.specs.BatchPromise.{batch_read_as}
use Rattle.batches.specs.BatchSteps.{Stands, RunHolds, HeldRun, PartLaid, RunPart}
use Rattle.batches.specs.declared.RowPosition.{RowPosition}
use Rattle.batches.specs.declared.BatchRead.{BatchRead}
use Rattle.batches.proofs.RowPositions.{rest-long}
use Rattle.batches.proofs.BatchRuns.{first-cut, first_alone}
use Rattle.batches.proofs.RunAtByte.{rows-read}

-- one run only stands at a byte
pub stands_one : {s : List ℕ} {p : ℕ} {d c : Description} → Stands s p d → Stands s p c → d ≡ c
stands_one t u = (got-inj (sym t.parsed ∙ u.parsed)).0

-- ---- what the run reader gave, into places of our own

module _ {s : List ℕ} {p : RowPosition} {signed : Bool} {held held' : List ℤ} {a : Answer} (y : RunHolds s p)
    (g : RunRead s p.run.bytes signed held held' a) where
  abbrev d : Description
  d = y.run

  abbrev at : ℕ
  at = p.run.bytes

  -- with room for the run ..
  ran : row_count d ≤ length held → a ≡ Ok (Some (run_of d))
  ran l =
      g.answer
      ∙ ap (answer_of at (length s - at)) (ap (into (length held)) y.stands.parsed
      ∙ into-got (length held) d (drop (at + length (layout d)) s) l)

  pub not-refused : length held ≡ 512 → (f : Refusal) → a ≡ Err f → ⊥
  not-refused l f e = run-not-refused (run_of d) f (sym (ran (omega (arith, l, y.stands.few))) ∙ e)

  pub not-ended : length held ≡ 512 → a ≡ Ok None → ⊥
  not-ended l e =
      let q : Ok (Some (run_of d)) ≡ (Ok None) = sym (ran (omega (arith, l, y.stands.few))) ∙ e in
      never (cc)

  -- .. and there is room if a run is answered
  module _ {r : Run} (e : a ≡ Ok (Some r)) where
    room : row_count d ≤ length held
    unfolding into
    room =
        go (ltb (length held) (row_count d)) refl
        (sym e ∙ g.answer ∙ ap (λ m. answer_of at (length s - at) (into (length held) m)) y.stands.parsed)
      where
        go : (t : Bool) → ltb (length held) (row_count d) ≡ t
            → Ok (Some r) ≡ answer_of at (length s - at) (unless t 8 (got d (drop (at + length (layout d)) s))) → row_count d ≤ length held
        go true l f = never (cc)
        go false l f = ltb-false (length held) (row_count d) l

    rows_are : r.rows.rows ≡ row_count d
    rows_are = ap (λ (x : Run). x.rows.rows) (run-inj r (run_of d) (sym e ∙ ran room))

    bytes-are : r.consumed.bytes ≡ length (layout d)
    bytes-are = ap (λ (x : Run). x.consumed.bytes) (run-inj r (run_of d) (sym e ∙ ran room))

    held-is : held' ≡ i64_rows signed d ++ drop (row_count d) held
    held-is = rows-read s at signed held held' a g d y.stands room

    pub held-run : length s < two64 → HeldRun r held' p
    held-run b = record {
      skips = omega (arith, rows_are, y.skips);
      holds-all = omega (
        arith,
        rows_are,
        ap length held-is,
        length-append (i64_rows signed d) (drop (row_count d) held),
        i64-count signed d,
      );
      small = omega (arith, bytes-are, y.stands.within);
    }

    pub part-read : {out out' : List ℤ} {b : BatchRead} → PartLaid r held' p out out' b → RunPart s p signed out out' b
    part-read w = record {
      read = λ c t.
          let q : c ≡ d = stands_one t y.stands in
          rw q (w.laid signed d rows_are bytes-are
          (ap (take (row_count d)) held-is ∙ take_at (i64_rows signed d) (drop (row_count d) held) (row_count d) (i64-count signed d)));
    }

-- ---- what is copied of it

module _ {run : Run} {held : List ℤ} {p : RowPosition} (y : HeldRun run held p) (out out' : List ℤ) where
  abbrev skip : ℕ
  skip = p.skip.rows

  abbrev left : ℕ
  left = run.rows.rows - skip

  -- the rows of the run, of all that is held
  copied : (signed : Bool) (d : Description) → run.rows.rows ≡ row_count d → take (row_count d) held ≡ i64_rows signed d
      → (n : ℕ) → n ≤ left → take n (drop skip held) ≡ take n (drop skip (i64_rows signed d))
  copied signed d e f n l =
      let own : held ≡ i64_rows signed d ++ drop (row_count d) held =
      sym (take-append-drop (row_count d) held) ∙ ap (λ (x : List ℤ). x ++ drop (row_count d) held) f in
      ap (λ (x : List ℤ). take n (drop skip x)) own
      ∙ ap (take n) (drop-append-le skip (i64_rows signed d) (drop (row_count d) held) (omega (arith, i64-count signed d, y.skips)))
      ∙ take-append-le n (drop skip (i64_rows signed d)) (drop (row_count d) held) (omega (arith, rest-long signed skip d))

  -- the places end before the run
  pub part_cut : length out < left → out' ≡ take (length out) (drop skip held) ++ drop (length out) out
      → PartLaid run held p out out' (batch_read_as (length out) p.run.bytes (skip + length out))
  part_cut l q = record {
    laid = λ signed d e b f.
        let n = length out in
        let k : length (take n (drop skip (i64_rows signed d))) ≡ n =
        length-take-le n (drop skip (i64_rows signed d)) (omega (arith, rest-long signed skip d)) in
        rw (first-cut signed n p.run.bytes skip d (omega (arith, y.skips)) (omega arith) (whole [])) (record {
          answer = rw k;
          places = rw k (q ∙ ap (λ (x : List ℤ). x ++ drop n out) (copied signed d e f n (omega arith)));
        });
  }

  -- or not
  pub part-whole : left ≤ length out → out' ≡ take left (drop skip held) ++ drop left out
      → PartLaid run held p out out' (batch_read_as left (p.run.bytes + run.consumed.bytes) 0)
  part-whole l q = record {
    laid = λ signed d e b f.
        let k : length (drop skip (i64_rows signed d)) ≡ left = rest-long signed skip d ∙ omega arith in
        let c : take left (drop skip held) ≡ drop skip (i64_rows signed d) =
        copied signed d e f left (omega arith) ∙ take_all left (drop skip (i64_rows signed d)) (omega arith) in
        rw (first_alone signed (length out) p.run.bytes skip d (omega (arith, y.skips)) (omega arith)) (record {
          answer = rw (k, b);
          places = rw k (q ∙ ap (λ (x : List ℤ). x ++ drop left out) c);
        });
  }
