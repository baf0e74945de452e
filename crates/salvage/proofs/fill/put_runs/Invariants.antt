-- Each turn writes one full run: what is written, and the runs that are left, are all; the rows that fill no run come last. Assumes nothing.
use Prim.Native.Nat.{◌-◌}
use Rattle.salvage.proofs.Laying.{Runs}
use Rattle.salvage.proofs.fill.put_runs.Given as goal

abbrev pub invariant-loop : goal.invariant-loop
invariant-loop l = Runs l.first l.rows.rows l.fn.out l.fn.at.bytes l.out l.place.bytes (l.end - l.counter)
