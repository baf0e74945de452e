use native.Mathlib.Omega.{arith}
use Prim.Native.Nat.{◌+◌, ◌-◌, ◌/◌}
use mathlib.Core.Path.{◌≡◌, ◌∙◌}
use Rattle.salvage.proofs.Laying.{runs-begin, runs-full, runs-next, runs_done, runs-rest-room, runs-rest}
use Rattle.salvage.proofs.fill.put_runs.Goals as goal

pub put_run-place-requires : goal.put_run-place-requires
put_run-place-requires c = (omega arith, omega arith, runs-full c.loop.invariant (omega arith))

pub loop-preserved : goal.loop-preserved
loop-preserved c =
    let i = c.loop.counter in
    let e : c.args.rows.rows / 512 - (i + 1) ≡ c.args.rows.rows / 512 - i - 1 = omega arith in
    rw e (runs-next c.loop.invariant (omega arith) c.put_run-place.ensures c.put_run-place.auto.out)

pub returns-then-rest-eq0 : goal.returns-then-rest-eq0
returns-then-rest-eq0 c = runs_done c.loop.invariant (omega arith) (omega arith)

pub put_run-requires : goal.put_run-requires
put_run-requires c = (omega arith, omega arith, runs-rest-room c.loop.invariant (omega arith) (λ e. omega arith))

pub shape_of-out : goal.shape_of-out
shape_of-out c = c.put_run.auto.out ∙ c.loop.invariant.same

pub returns : goal.returns
returns c =
    runs-rest c.loop.invariant (omega arith) (λ e. omega arith) c.put_run.ensures

pub loop-init : goal.loop-init
loop-init c =
    let e : c.args.rows.rows / 512 - 0 ≡ c.args.rows.rows / 512 = omega arith in
    rw e (runs-begin c.requires)

pub shape_of-out-then-rest-eq0 : goal.shape_of-out-then-rest-eq0
shape_of-out-then-rest-eq0 c = c.loop.invariant.same
