-- The slice holds the run's rows, so the writer's promise for it is that of the direct run. Assumes nothing.
use mathlib.Core.Path.{◌≡◌}
use mathlib.Core.List.{map}
use Prim.Native.Nat.{◌+◌, ◌-◌}
use native.Mathlib.Omega.{arith}
use lib.ListN.{length, take, drop}
use Rattle.format.specs.declared.Form.TheVariants.{Direct}
use Rattle.format.specs.Rows.{as_u64}
use Rattle.format.specs.Writing.{writing}
use Rattle.planner.proofs.Steps.{ran}
use Rattle.planner.proofs.write.wide_run.Goals as goal

pub returns : goal.returns
returns c =
    let a = c.args in
    let k : a.at.rows + a.n.rows - a.at.rows ≡ a.n.rows = omega arith in
    let v = rw k at c.write_run-a.ensures in
    rw c.consumed.ensures
    (ran (writing a.signed Direct 31 (map as_u64 (take a.n.rows (drop a.at.rows a.rows.now))) (length a.out.now))
    a.out.now _ _ v.answer v.places)
