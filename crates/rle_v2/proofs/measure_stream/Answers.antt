use mathlib.Core.Path.{ap}
use Rattle.std.specs.Prelude.{Ok}
use mathlib.Core.Path.{◌≡◌, ◌∙◌}
use Prim.Native.Nat.{◌-◌}
use native.Mathlib.Omega.{arith}
use mathlib.Core.List.{[]}
use lib.ListN.{drop, drop_of_length-le}
use Rattle.format.specs.Fields.{two64}
use Rattle.format.proofs.Below.{below_all}
use Rattle.rle_v2.proofs.OneRun.{OneRun, NoRun, Step, step_is, fits}
use Rattle.rle_v2.proofs.StreamWalk.{counted-first, counted-run, counted-whole, counted-refused}
use Rattle.rle_v2.proofs.measure_stream.Goals as goal

pub overflow_add-count : goal.overflow_add-count
overflow_add-count c =
    let step : Step c.args.input.now c.loop-place.place (two64 - 1 - c.loop-place.count) c.in_places-a.result = let input = c.args.input.now in
    step_is input c.loop-place.place (two64 - 1 - c.loop-place.count) c.in_places-a.result
    (below_all 256 input (λ i. (c.shared_slice_known-1.given i).fits)) (c.in_places-a.ensures _ _ c.measure-m.ensures) in
    let ran-is : OneRun c.args.input.now c.loop-place.place (two64 - 1 - c.loop-place.count) c.in-Ok-Some.run' = rw (c.in-Ok-Some.is ∙ ap Ok (rw c.in-Ok-Some.is at c.in-Ok-Some.field-0-is)) at (step) in
    omega (arith, fits (two64 - 1 - c.loop-place.count) (ran-is), c.loop-place.invariant.fits)

pub overflow_add-place : goal.overflow_add-place
overflow_add-place c =
    let step : Step c.args.input.now c.loop-place.place (two64 - 1 - c.loop-place.count) c.in_places-a.result = let input = c.args.input.now in
    step_is input c.loop-place.place (two64 - 1 - c.loop-place.count) c.in_places-a.result
    (below_all 256 input (λ i. (c.shared_slice_known-1.given i).fits)) (c.in_places-a.ensures _ _ c.measure-m.ensures) in
    let ran-is : OneRun c.args.input.now c.loop-place.place (two64 - 1 - c.loop-place.count) c.in-Ok-Some.run' = rw (c.in-Ok-Some.is ∙ ap Ok (rw c.in-Ok-Some.is at c.in-Ok-Some.field-0-is)) at (step) in
    omega (arith, ran-is.within)

pub loop-place-smaller : goal.loop-place-smaller
loop-place-smaller c =
    let step : Step c.args.input.now c.loop-place.place (two64 - 1 - c.loop-place.count) c.in_places-a.result = let input = c.args.input.now in
    step_is input c.loop-place.place (two64 - 1 - c.loop-place.count) c.in_places-a.result
    (below_all 256 input (λ i. (c.shared_slice_known-1.given i).fits)) (c.in_places-a.ensures _ _ c.measure-m.ensures) in
    let ran-is : OneRun c.args.input.now c.loop-place.place (two64 - 1 - c.loop-place.count) c.in-Ok-Some.run' = rw (c.in-Ok-Some.is ∙ ap Ok (rw c.in-Ok-Some.is at c.in-Ok-Some.field-0-is)) at (step) in
    let o = ran-is in omega (arith, o.within, o.some_bytes)

pub loop-place-preserved : goal.loop-place-preserved
loop-place-preserved c =
    let step : Step c.args.input.now c.loop-place.place (two64 - 1 - c.loop-place.count) c.in_places-a.result = let input = c.args.input.now in
    step_is input c.loop-place.place (two64 - 1 - c.loop-place.count) c.in_places-a.result
    (below_all 256 input (λ i. (c.shared_slice_known-1.given i).fits)) (c.in_places-a.ensures _ _ c.measure-m.ensures) in
    let ran-is : OneRun c.args.input.now c.loop-place.place (two64 - 1 - c.loop-place.count) c.in-Ok-Some.run' = rw (c.in-Ok-Some.is ∙ ap Ok (rw c.in-Ok-Some.is at c.in-Ok-Some.field-0-is)) at (step) in
    counted-run c.loop-place.invariant c.loop-place-test.true (ran-is)

pub overflow_sub-taken : goal.overflow_sub-taken
overflow_sub-taken c = omega (arith, c.loop-place.invariant.bytes)

pub returns-in-Err : goal.returns-in-Err
returns-in-Err c =
    let step : Step c.args.input.now c.loop-place.place (two64 - 1 - c.loop-place.count) c.in_places-a.result = let input = c.args.input.now in
    step_is input c.loop-place.place (two64 - 1 - c.loop-place.count) c.in_places-a.result
    (below_all 256 input (λ i. (c.shared_slice_known-1.given i).fits)) (c.in_places-a.ensures _ _ c.measure-m.ensures) in
    let refused-is : NoRun c.args.input.now c.loop-place.place (two64 - 1 - c.loop-place.count) c.in-Err.f = rw c.in-Err.is at (step) in
    rw c.new-in-Err.ensures (counted-refused c.loop-place.invariant (refused-is))

pub returns-in-Ok-None : goal.returns-in-Ok-None
returns-in-Ok-None c =
    let step : Step c.args.input.now c.loop-place.place (two64 - 1 - c.loop-place.count) c.in_places-a.result = let input = c.args.input.now in
    step_is input c.loop-place.place (two64 - 1 - c.loop-place.count) c.in_places-a.result
    (below_all 256 input (λ i. (c.shared_slice_known-1.given i).fits)) (c.in_places-a.ensures _ _ c.measure-m.ensures) in
    let ended_is : drop c.loop-place.place c.args.input.now ≡ [] = rw (c.in-Ok-None.is ∙ ap Ok (rw c.in-Ok-None.is at c.in-Ok-None.field-0-is)) at (step) in
    rw c.new.ensures (counted-whole c.loop-place.invariant (ended_is))

pub overflow_sub-taken-2 : goal.overflow_sub-taken-2
overflow_sub-taken-2 c = omega (arith, c.loop-place.invariant.bytes)

pub returns : goal.returns
returns c =
    rw c.new-2.ensures (counted-whole c.loop-place.invariant (drop_of_length-le _ c.loop-place-test.false))

pub loop-place-init : goal.loop-place-init
loop-place-init c = counted-first _ _ _

pub overflow_sub-left : goal.overflow_sub-left
overflow_sub-left c = c.loop-place.invariant.fits
