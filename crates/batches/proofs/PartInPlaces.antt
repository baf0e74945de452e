-- A part of a direct run, read into its places: the run that is named is the one that stands there, so its rows are the batch of that run alone.
-- Assumes nothing.
use mathlib.Core.Path.{◌≡◌, sym, ap, ◌∙◌}
use Prim.Native.Nat.{ℕ, ◌+◌, ◌-◌, ◌<◌, ◌≤◌}
use native.Mathlib.Omega.{arith}
use mathlib.Core.Bool.{Bool}
use mathlib.Core.List.{List, [], ◌++◌}
use lib.ListN.{length, take, drop, drop_of_length-le}
use lib.Seq.{take-nil, take_all, length-take-le}
use lib.IntN.{ℤ}
use borrow.Author.Tests.{lt-ltb}
use Rattle.format.specs.Fields.{two64}
use Rattle.format.specs.Runs.{Description, short, direct, fixed, delta, patched, row_count, layout}
use Rattle.format.specs.Rows.{i64_rows}
use Rattle.format.specs.Streams.{whole}
use Rattle.format.specs.Promises.{run_of}
use Rattle.format.specs.declared.Run.{Run}
use Rattle.format.proofs.Tests.{never}
use Rattle.rle_v2.specs.Part.{rows_from, part_rows, part_of, part_answer, laid_first, DirectPartRead}
use Rattle.std.specs.Prelude.{Option, Some, None}
use Rattle.batches.specs.BatchPromise.{batch_read_as}
use Rattle.batches.specs.BatchSteps.{RunHolds, RunPart}
use Rattle.batches.specs.declared.RowPosition.{RowPosition}
use Rattle.batches.proofs.RowPositions.{rest-long}
use Rattle.batches.proofs.BatchRuns.{first-cut, first_alone}
use Rattle.batches.proofs.PartOfRun.{stands_one}

read-not : (r : Run) → None ≡ Some r → ⊥
read-not r e = never (cc)

module _ {s : List ℕ} {p : RowPosition} {signed : Bool} {out out' : List ℤ} {a : Option Run} (y : RunHolds s p)
    (g : DirectPartRead s p.run.bytes p.skip.rows signed out out' a) where
  abbrev d : Description
  d = y.run

  abbrev at : ℕ
  at = p.run.bytes

  abbrev skip : ℕ
  skip = p.skip.rows

  abbrev n : ℕ
  n = length out

  answer-is : a ≡ part_of skip d
  answer-is = g.answer ∙ ap (part_answer skip) y.stands.parsed

  places-are : out' ≡ laid_first (rows_from signed skip d) out
  places-are = g.places ∙ ap (λ m. laid_first (part_rows signed skip m) out) y.stands.parsed

  -- another kind of run: no place is touched
  pub untouched : a ≡ None → out' ≡ out
  untouched e = go d y.skips (sym e ∙ answer-is) places-are
    where
      none : out' ≡ laid_first [] out → out' ≡ out
      none q = q ∙ rw (take-nil {A = ℤ} n)

      go : (c : Description) → skip < row_count c → None ≡ part_of skip c → out' ≡ laid_first (rows_from signed skip c) out → out' ≡ out
      go (short count value) h f q = none q
      go (direct code k) h f q = absurd (read-not _ (rw (lt-ltb skip (length k.values) h) at f))
      go (fixed rows first base) h f q = none q
      go (delta code first base k) h f q = none q
      go (patched code base pc gw k l) h f q = none q

  -- a direct run
  module _ {run : Run} (e : a ≡ Some run) where
    named : (run ≡ run_of d) × (out' ≡ laid_first (drop skip (i64_rows signed d)) out)
    named = go d y.skips (sym answer-is ∙ e) places-are
      where
        go : (c : Description) → skip < row_count c → part_of skip c ≡ Some run → out' ≡ laid_first (rows_from signed skip c) out
            → (run ≡ run_of c) × (out' ≡ laid_first (drop skip (i64_rows signed c)) out)
        go (short count value) h f q = absurd (read-not run f)
        go (direct code k) h f q =
            let same : Some (run_of (direct code k)) ≡ Some run = rw (lt-ltb skip (length k.values) h) at f in
            (cc, q)
        go (fixed rows first base) h f q = absurd (read-not run f)
        go (delta code first base k) h f q = absurd (read-not run f)
        go (patched code base pc gw k l) h f q = absurd (read-not run f)

    rows_are : run.rows.rows ≡ row_count d
    rows_are = ap (λ (x : Run). x.rows.rows) named.0

    bytes-are : run.consumed.bytes ≡ length (layout d)
    bytes-are = ap (λ (x : Run). x.consumed.bytes) named.0

    pub some-rows : skip < run.rows.rows
    some-rows = rw rows_are y.skips

    pub end_fits : length s < two64 → at + run.consumed.bytes < two64
    end_fits h = omega (arith, bytes-are, y.stands.within)

    -- the places end before the run
    pub in-places-cut : n < run.rows.rows - skip → RunPart s p signed out out' (batch_read_as n at (skip + n))
    in-places-cut l = record {
      read = λ c t.
          let q : c ≡ d = stands_one t y.stands in
          let rows = drop skip (i64_rows signed d) in
          let long : length rows ≡ row_count d - skip = rest-long signed skip d in
          let k : length (take n rows) ≡ n = length-take-le n rows (omega (arith, rows_are)) in
          let none : drop (length rows) out ≡ drop n out
          = drop_of_length-le out {i = length rows} (omega (arith, rows_are)) ∙ sym (drop_of_length-le out {i = n} (omega arith)) in
          rw (q, first-cut signed n at skip d y.skips (omega (arith, rows_are)) (whole [])) (record {
            answer = rw k;
            places = rw k (named.1 ∙ ap (λ (x : List ℤ). take n rows ++ x) none);
          });
    }

    -- or not
    pub in-places-whole : run.rows.rows - skip ≤ n
        → RunPart s p signed out out' (batch_read_as (run.rows.rows - skip) (at + run.consumed.bytes) 0)
    in-places-whole l = record {
      read = λ c t.
          let q : c ≡ d = stands_one t y.stands in
          let rows = drop skip (i64_rows signed d) in
          let long : length rows ≡ run.rows.rows - skip = rest-long signed skip d ∙ ap (λ (x : ℕ). x - skip) (sym rows_are) in
          rw (q, first_alone signed n at skip d y.skips (omega (arith, rows_are))) (record {
            answer = rw (long, bytes-are);
            places = named.1 ∙ ap (λ (x : List ℤ). x ++ drop (length rows) out) (take_all n rows (omega arith));
          });
    }
