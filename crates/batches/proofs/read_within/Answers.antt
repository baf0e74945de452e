-- The run's own part fills the places, or the batch of the runs after it follows in those that are left. Assumes nothing.
use mathlib.Core.Logic.{◌≢◌}
use Prim.Native.Nat.{◌≤◌}
use native.Mathlib.Omega.{arith}
use lib.ListN.{length, drop}
use Rattle.format.specs.Digits.{AllBelow}
use Rattle.format.proofs.Below.{below_all}
use Rattle.util.proofs.Grow.{rest-is}
use Rattle.batches.specs.BatchSteps.{BatchFrom}
use Rattle.batches.proofs.RowPositions.{position}
use Rattle.batches.proofs.WithinRun.{none-wanted, all-filled, some_left, rest-few, rest_read}
use Rattle.std.proofs.lemmas.Bool.Decides.{nat_tests}
use Rattle.batches.proofs.read_within.Goals.{After-read_part-first}
use Rattle.batches.proofs.read_within.Goals as goal

bytes-here : (c : After-read_part-first) → AllBelow 256 c.args.input.now
bytes-here c = below_all 256 c.args.input.now (λ i. (c.type_inv.input i).fits)

some-here : (c : After-read_part-first) → c.read_part-first.result.rows.rows ≢ length c.args.out.now
    → c.read_part-first.result.rows.rows ≤ length c.read_part-first.new.out
some-here c u = some_left (bytes-here c) c.requires c.read_part-first.ensures u

-- ---- no places, or the part fills them
pub returns-then-is_empty : goal.returns-then-is_empty
returns-then-is_empty c =
    rw c.new.ensures (none-wanted c.args.signed c.args.out.now c.requires (grind (arith, nat_tests)))

pub returns-then-n-out : goal.returns-then-n-out
returns-then-n-out c =
    let bytes = bytes-here (goal.at.returns-then-n-out c).After-read_part-first in
    all-filled (bytes) c.requires c.read_part-first.ensures (omega (arith, c.read_part-first.auto.out))

pub offset_bounds-out-n : goal.offset_bounds-out-n
offset_bounds-out-n c =
    let some = some-here (goal.at.offset_bounds-out-n c).After-read_part-first (λ e. omega (arith, e, c.read_part-first.auto.out)) in
    omega (arith, some, c.read_part-first.auto.out)

pub after-requires : goal.after-requires
after-requires c =
    let bytes = bytes-here (goal.at.after-requires c).After-read_part-first in
    let unfilled : c.read_part-first.result.rows.rows ≢ length c.args.out.now = λ e. omega (arith, e, c.read_part-first.auto.out) in
    let rest : (let a = c.args in
    BatchFrom a.input.now (position c.read_part-first.result.next.run.bytes 0) a.signed
    (drop c.read_part-first.result.rows.rows c.read_part-first.new.out) c.read_runs-rest.new.out c.read_runs-rest.result) = rw (rest-is c.read_part-first.new.out c.read_part-first.result.rows.rows) at c.read_runs-rest.ensures in
    omega (
      arith,
      rest-few (bytes) c.requires c.read_part-first.ensures (unfilled) (rest),
      c.read_part-first.auto.out,
    )

pub returns : goal.returns
returns c =
    let bytes = bytes-here (goal.at.returns c).After-read_part-first in
    let unfilled : c.read_part-first.result.rows.rows ≢ length c.args.out.now = λ e. omega (arith, e, c.read_part-first.auto.out) in
    let rest : (let a = c.args in
    BatchFrom a.input.now (position c.read_part-first.result.next.run.bytes 0) a.signed
    (drop c.read_part-first.result.rows.rows c.read_part-first.new.out) c.read_runs-rest.new.out c.read_runs-rest.result) = rw (rest-is c.read_part-first.new.out c.read_part-first.result.rows.rows) at c.read_runs-rest.ensures in
    rw c.after.ensures (rest_read (bytes) c.requires c.read_part-first.ensures (unfilled) (rest))

pub slice_bounds-read_runs-count : goal.slice_bounds-read_runs-count
slice_bounds-read_runs-count c =
    let some = some-here (goal.at.slice_bounds-read_runs-count c).After-read_part-first (λ e. omega (arith, e, c.read_part-first.auto.out)) in
    omega (arith, some)

pub slice_bounds-read_runs-start : goal.slice_bounds-read_runs-start
slice_bounds-read_runs-start c =
    let some = some-here (goal.at.slice_bounds-read_runs-start c).After-read_part-first (λ e. omega (arith, e, c.read_part-first.auto.out)) in
    omega (arith, some)
