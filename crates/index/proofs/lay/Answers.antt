-- The run's rows are read aside, those from the row on are copied, and the runs after it are read after them. Assumes nothing.
use mathlib.Core.Path.{◌∙◌}
use Rattle.std.specs.Prelude.{Ok}
use mathlib.Core.Path.{◌≡◌, ap}
use Prim.Native.Nat.{ℕ, ◌+◌, ◌-◌}
use mathlib.Core.List.{◌++◌}
use native.Mathlib.Omega.{arith}
use lib.ListN.{length, drop}
use Rattle.format.specs.Rows.{i64_rows}
use Rattle.format.specs.Runs.{row_count, layout}
use Rattle.util.proofs.Grow.{rest-is}
use Rattle.index.proofs.Laying.{held-is, rows_are, bytes-are, not-refused, not-ended, bytes-within, rows-within, held-long, laid-is}
use Rattle.index.proofs.lay.Goals.{In-Ok-Some}
use Rattle.index.proofs.lay.Goals as goal

-- ---- the run that was read
rows-here : (c : In-Ok-Some) → c.in-Ok-Some.run'.rows.rows ≡ row_count c.requires.run
rows-here c =
    let a = c.args in
    rows_are a.input.now a.at.bytes a.skip.rows a.signed a.out.now c.requires _ _ _ c.scratch-held.ensures
    c.read_run-a.ensures _ (c.in-Ok-Some.is ∙ ap Ok (rw c.in-Ok-Some.is at c.in-Ok-Some.field-0-is))

bytes-here : (c : In-Ok-Some) → c.in-Ok-Some.run'.consumed.bytes ≡ length (layout c.requires.run)
bytes-here c =
    let a = c.args in
    bytes-are a.input.now a.at.bytes a.skip.rows a.signed a.out.now c.requires _ _ _ c.scratch-held.ensures
    c.read_run-a.ensures _ (c.in-Ok-Some.is ∙ ap Ok (rw c.in-Ok-Some.is at c.in-Ok-Some.field-0-is))

held-here : (c : In-Ok-Some) → c.read_run-a.new.out ≡ i64_rows c.args.signed c.requires.run ++ drop (row_count c.requires.run) c.scratch-held.result
held-here c =
    let a = c.args in
    held-is a.input.now a.at.bytes a.skip.rows a.signed a.out.now c.requires _ _ _ c.scratch-held.ensures c.read_run-a.ensures

pub overflow_sub-n : goal.overflow_sub-n
overflow_sub-n c =
    let rows = rows-here (goal.at.overflow_sub-n c).In-Ok-Some in
    omega (arith, rows, c.requires.skips)

pub copy-requires : goal.copy-requires
copy-requires c =
    let rows = rows-here (goal.at.copy-requires c).In-Ok-Some in
    let held = held-here (goal.at.copy-requires c).In-Ok-Some in
    let a = c.args in (
      held-long a.input.now a.at.bytes a.skip.rows a.signed a.out.now c.requires _ _ (held) _
          (ap (λ (k : ℕ). k - a.skip.rows) (rows)),
      omega (arith, rows, rows-within a.input.now a.at.bytes a.skip.rows a.signed a.out.now c.requires),
    )

pub overflow_add-next : goal.overflow_add-next
overflow_add-next c =
    let consumed = bytes-here (goal.at.overflow_add-next c).In-Ok-Some in
    let a = c.args in
    omega (arith, consumed, bytes-within a.input.now a.at.bytes a.skip.rows a.signed a.out.now c.requires)

pub offset_bounds-out-n : goal.offset_bounds-out-n
offset_bounds-out-n c =
    let rows = rows-here (goal.at.offset_bounds-out-n c).In-Ok-Some in
    let a = c.args in
    omega (arith, rows, rows-within a.input.now a.at.bytes a.skip.rows a.signed a.out.now c.requires)

pub slice_bounds-read_stream-count : goal.slice_bounds-read_stream-count
slice_bounds-read_stream-count c =
    let rows = rows-here (goal.at.slice_bounds-read_stream-count c).In-Ok-Some in
    let a = c.args in
    omega (
      arith,
      rows,
      rows-within a.input.now a.at.bytes a.skip.rows a.signed a.out.now c.requires,
      c.copy.auto.out,
    )

pub slice_bounds-read_stream-start : goal.slice_bounds-read_stream-start
slice_bounds-read_stream-start c =
    let rows = rows-here (goal.at.slice_bounds-read_stream-start c).In-Ok-Some in
    let a = c.args in
    omega (
      arith,
      rows,
      rows-within a.input.now a.at.bytes a.skip.rows a.signed a.out.now c.requires,
      c.copy.auto.out,
    )

pub returns-in-Ok-Some : goal.returns-in-Ok-Some
returns-in-Ok-Some c =
    let rows = rows-here (goal.at.returns-in-Ok-Some c).In-Ok-Some in
    let consumed = bytes-here (goal.at.returns-in-Ok-Some c).In-Ok-Some in
    let held = held-here (goal.at.returns-in-Ok-Some c).In-Ok-Some in
    let a = c.args in
    let n = c.in-Ok-Some.run'.rows.rows - a.skip.rows in
    laid-is a.input.now a.at.bytes a.skip.rows a.signed a.out.now c.requires _ _ (held) _
    (ap (λ (k : ℕ). k - a.skip.rows) (rows))
    c.copy.new.out
    c.read_stream.new.out c.copy.ensures _ (ap (λ (k : ℕ). a.at.bytes + k) (consumed)) _
    (rw (rest-is c.copy.new.out n) at c.read_stream.ensures)

pub returns-in-Err : goal.returns-in-Err
returns-in-Err c =
    let a = c.args in
    absurd (not-refused a.input.now a.at.bytes a.skip.rows a.signed a.out.now c.requires _ _ _
    c.scratch-held.ensures
    c.read_run-a.ensures _ c.in-Err.is)

pub returns-in-Ok-None : goal.returns-in-Ok-None
returns-in-Ok-None c =
    let a = c.args in
    absurd (not-ended a.input.now a.at.bytes a.skip.rows a.signed a.out.now c.requires _ _ _
    c.scratch-held.ensures
    c.read_run-a.ensures (c.in-Ok-None.is ∙ ap Ok (rw c.in-Ok-None.is at c.in-Ok-None.field-0-is)))
