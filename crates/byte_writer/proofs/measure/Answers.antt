use Rattle.format.proofs.Common.{◌≡◌, ap, ◌∙◌, List, [], ℕ, arith, length, drop, drop_of_length-le}
use Rattle.byte_writer.specs.Choice.{written}
use Rattle.byte_writer.specs.Flags.{source}
use Rattle.byte_writer.proofs.Choosing.{written_none}
use Rattle.byte_writer.proofs.Least.{written-enough}
use Rattle.byte_writer.proofs.Packing.{source-le}
use Rattle.byte_writer.proofs.Walking.{Step, step}
use Rattle.byte_writer.proofs.measure.Goals as goal

pub loop-at-init : goal.loop-at-init
loop-at-init c = (omega arith, omega arith)

pub size-size-requires : goal.size-size-requires
size-size-requires c =
    let bytes : List ℕ = source c.args.packed c.args.s.now in
    let found : Step (bytes) c.loop-at.at c.next_at-next.result = step (bytes) c.loop-at.at c.next_at-next.result (omega arith) c.next_at-next.ensures in
    found.few

pub overflow_add-size : goal.overflow_add-size
overflow_add-size c =
    let bytes : List ℕ = source c.args.packed c.args.s.now in
    let found : Step (bytes) c.loop-at.at c.next_at-next.result = step (bytes) c.loop-at.at c.next_at-next.result (omega arith) c.next_at-next.ensures in
    let a = c.args in
    omega (arith, found.less, written-enough (bytes), source-le a.packed a.s.now, c.well_formed)

pub overflow_add-at : goal.overflow_add-at
overflow_add-at c =
    let bytes : List ℕ = source c.args.packed c.args.s.now in
    let found : Step (bytes) c.loop-at.at c.next_at-next.result = step (bytes) c.loop-at.at c.next_at-next.result (omega arith) c.next_at-next.ensures in
    let a = c.args in
    omega (arith, found.inside, source-le a.packed a.s.now)

pub loop-at-smaller : goal.loop-at-smaller
loop-at-smaller c =
    let bytes : List ℕ = source c.args.packed c.args.s.now in
    let found : Step (bytes) c.loop-at.at c.next_at-next.result = step (bytes) c.loop-at.at c.next_at-next.result (omega arith) c.next_at-next.ensures in
    omega (arith, found.some, found.inside)

pub loop-at-preserved : goal.loop-at-preserved
loop-at-preserved c =
    let bytes : List ℕ = source c.args.packed c.args.s.now in
    let found : Step (bytes) c.loop-at.at c.next_at-next.result = step (bytes) c.loop-at.at c.next_at-next.result (omega arith) c.next_at-next.ensures in
    let f = found in
    (rw c.count-at.ensures f.inside, rw c.count-at.ensures (omega (arith, f.less)))

pub returns : goal.returns
returns c =
    let a = c.args in
    let bs = source a.packed a.s.now in
    let e : written (drop c.loop-at.at bs) ≡ [] = ap written (drop_of_length-le bs {i = c.loop-at.at} (omega arith)) ∙ written_none in
    omega (arith, ap length e)
