-- A batch that begins within a run: if the places end in that run, its own batch is all; or else the batch of the runs after it follows.
-- Assumes nothing.
use mathlib.Core.Path.{◌≡◌, refl, sym, ap, ◌∙◌, subst}
use mathlib.Core.Logic.{◌≢◌}
use Prim.Native.Nat.{ℕ, ◌+◌, ◌-◌, ◌<◌, ◌≤◌}
use native.Mathlib.Omega.{arith}
use native.Mathlib.Decide.{dec_lt}
use native.Mathlib.Nat.{add-zero}
use mathlib.Core.Bool.{Bool}
use mathlib.Core.List.{List, [], ◌∷◌, ◌++◌, append-nil}
use lib.ListN.{length, take, drop, length-append, length-drop}
use lib.Seq.{take_at, drop_at, length-take-le}
use lib.IntN.{ℤ}
use Rattle.format.specs.Digits.{AllBelow}
use Rattle.format.specs.Runs.{Description, row_count, layout}
use Rattle.format.specs.Rows.{i64_rows}
use Rattle.format.specs.Streams.{Reading, whole, stream}
use Rattle.batches.specs.Batches.{RowBatch, first_rows}
use Rattle.batches.specs.BatchPromise.{position_in, batch_read_as}
use Rattle.batches.specs.BatchSteps.{RunHolds, Reads, RunPart, BatchFrom, more}
use Rattle.batches.specs.declared.RowPosition.{RowPosition}
use Rattle.batches.specs.declared.BatchRead.{BatchRead}
use Rattle.batches.proofs.RowPositions.{position, before, rest-long}
use Rattle.batches.proofs.BatchRuns.{first-cut, first_on, first_alone}
use Rattle.batches.proofs.BatchReads.{none_left, reads_more, batch-few}

-- without places, the position is made plain already
pub none-wanted : {s : List ℕ} {p : RowPosition} (signed : Bool) (out : List ℤ) → RunHolds s p → length out ≡ 0
    → BatchFrom s (position_in p) signed out out (batch_read_as 0 p.run.bytes p.skip.rows)
none-wanted {s} {p} signed out y e =
    let at = p.run.bytes in
    let g : first_rows signed 0 (position_in p) (stream (drop at s)) ≡ record { rows = []; next = position_in p } =
    ap (first_rows signed 0 (position_in p)) y.stands.onward
    ∙ first-cut signed 0 at p.skip.rows y.run y.skips (omega (arith, y.skips)) (stream (drop (at + length (layout y.run)) s))
    ∙ rw add-zero in
    record { read = rw (e, g) (record { answer = refl; places = refl }) }

module _ {s : List ℕ} (h : AllBelow 256 s) {p : RowPosition} {signed : Bool} {out₀ out : List ℤ} (y : RunHolds s p) {r : BatchRead}
    (q : RunPart s p signed out₀ out r) where
  abbrev at : ℕ
  at = p.run.bytes

  abbrev skip : ℕ
  skip = p.skip.rows

  abbrev d : Description
  d = y.run

  abbrev left : ℕ
  left = row_count d - skip

  abbrev next-byte : ℕ
  next-byte = at + length (layout d)

  abbrev rest : Reading
  rest = stream (drop next-byte s)

  abbrev rows : List ℤ
  rows = drop skip (i64_rows signed d)

  -- the batch
  abbrev given : RowBatch
  given = first_rows signed (length out₀) (position at skip) (stream (drop at s))

  alone : Reads (first_rows signed (length out₀) (position at skip) (whole (d ∷ []))) out₀ out r
  alone = q.read d y.stands

  -- the places end in the run
  short-so : length out₀ < left → first_rows signed (length out₀) (position at skip) (whole (d ∷ [])) ≡ given
  short-so l =
      first-cut signed (length out₀) at skip d y.skips l (whole [])
      ∙ sym (first-cut signed (length out₀) at skip d y.skips l rest)
      ∙ sym (ap (first_rows signed (length out₀) (position at skip)) y.stands.onward)

  short-rows : length out₀ < left → r.rows.rows ≡ length out₀
  short-rows l =
      ap (λ (x : BatchRead). x.rows.rows) alone.answer
      ∙ ap (λ (g : RowBatch). length g.rows) (first-cut signed (length out₀) at skip d y.skips l (whole []))
      ∙ length-take-le (length out₀) rows (omega (arith, rest-long signed skip d))

  -- or the run ends first
  module _ (l : left ≤ length out₀) where
    on-so : given ≡ before rows (first_rows signed (length out₀ - left) (position next-byte 0) rest)
    on-so = ap (first_rows signed (length out₀) (position at skip)) y.stands.onward
        ∙ first_on signed (length out₀) at skip d y.skips l rest

    answer-so : r ≡ batch_read_as left next-byte 0
    answer-so =
        alone.answer ∙ ap (λ (g : RowBatch). batch_read_as (length g.rows) g.next.run g.next.skip)
        (first_alone signed (length out₀) at skip d y.skips l)
        ∙ ap (λ (n : ℕ). batch_read_as n next-byte 0) (rest-long signed skip d)

    places-so : out ≡ rows ++ drop left out₀
    places-so =
        alone.places ∙ ap (λ (g : RowBatch). g.rows ++ drop (length g.rows) out₀)
        (first_alone signed (length out₀) at skip d y.skips l)
        ∙ ap (λ (n : ℕ). rows ++ drop n out₀) (rest-long signed skip d)

    full-so : length out₀ ≡ left → first_rows signed (length out₀) (position at skip) (whole (d ∷ [])) ≡ given
    full-so e =
        let z : length out₀ - left ≡ 0 = omega arith in
        first_alone signed (length out₀) at skip d y.skips l
        ∙ sym (on-so ∙ ap (λ (n : ℕ). before rows (first_rows signed n (position next-byte 0) rest)) z
        ∙ ap (before rows) (none_left s signed next-byte h) ∙ rw append-nil)

    long-so : length out ≡ length out₀
    long-so = ap length places-so
        ∙ omega (arith, length-append rows (drop left out₀), length-drop left out₀, rest-long signed skip d)

    -- the runs after it are read into the places that are left
    rest-so : (part : List ℤ) (x : BatchRead) → BatchFrom s (position next-byte 0) signed (drop left out) part x
        → BatchFrom s (position at skip) signed out₀ (take left out ++ (part ++ drop (length out - left) (drop left out))) (more left x)
    rest-so part x w =
        let e : drop left out ≡ drop left out₀ = ap (λ (o : List ℤ). drop left o) places-so
        ∙ drop_at rows (drop left out₀) left (rest-long signed skip d) in
        let f : take left out ≡ rows = ap (take left) places-so ∙ take_at rows (drop left out₀) left (rest-long signed skip d) in
        let n : length out₀ - left ≡ length (drop left out) = omega (arith, length-drop left out, long-so) in
        let rest-batch = first_rows signed (length (drop left out)) (position next-byte 0) rest in
        let g : given ≡ before (take left out) rest-batch = on-so
        ∙ ap (λ (k : ℕ). before rows (first_rows signed k (position next-byte 0) rest)) n
        ∙ ap (λ (o : List ℤ). before o rest-batch) (sym f) in
        record { read = reads_more given rest-batch out₀ out left (omega (arith, long-so)) e g w.read }

  -- ---- the two ends: every place is filled ..
  pub all-filled : r.rows.rows ≡ length out₀ → BatchFrom s (position_in p) signed out₀ out r
  all-filled e = go (dec_lt (length out₀) left)
    where
      go : Dec (length out₀ < left) → BatchFrom s (position_in p) signed out₀ out r
      go (yes l) = record { read = rw (← (short-so l)) alone }
      go (no l) =
          let f : length out₀ ≡ left = sym e ∙ ap (λ (x : BatchRead). x.rows.rows) (answer-so (omega arith)) in
          record { read = rw (← (full-so (omega arith) f)) alone }

  -- .. or some are left
  module _ (z : r.rows.rows ≢ length out₀) where
    runs-out : left ≤ length out₀
    runs-out = go (dec_lt (length out₀) left)
      where
        go : Dec (length out₀ < left) → left ≤ length out₀
        go (yes l) = absurd (z (short-rows l))
        go (no l) = omega arith

    pub some_left : r.rows.rows ≤ length out
    some_left = omega (arith, ap (λ (x : BatchRead). x.rows.rows) (answer-so runs-out), runs-out, long-so runs-out)

    -- what the call for the runs after it gives
    abbrev Rest : List ℤ → BatchRead → BatchRead → Type 0
    Rest part x b = BatchFrom s (position b.next.run.bytes 0) signed (drop b.rows.rows out) part x

    pub rest-few : {part : List ℤ} {x : BatchRead} → Rest part x r → r.rows.rows + x.rows.rows ≤ length out
    rest-few w = omega (arith, some_left, length-drop r.rows.rows out, batch-few w)

    pub rest_read : {part : List ℤ} {x : BatchRead} → Rest part x r
        → BatchFrom s (position_in p) signed out₀
        (take r.rows.rows out ++ (part ++ drop (length out - r.rows.rows) (drop r.rows.rows out))) (more r.rows.rows x)
    rest_read {part} {x} = subst (λ (b : BatchRead). Rest part x b
        → BatchFrom s (position_in p) signed out₀
        (take b.rows.rows out ++ (part ++ drop (length out - b.rows.rows) (drop b.rows.rows out))) (more b.rows.rows x))
        (sym (answer-so runs-out)) (rest-so runs-out part x)
