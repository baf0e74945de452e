-- Each turn tests one position against the one before it, so the list is in order exactly if the rest rises from there. Assumes nothing.
use mathlib.Core.Path.{◌≡◌}
use Prim.Native.Nat.{◌≤◌}
use lib.ListN.{length, drop}
use Rattle.batches.specs.BatchPromise.{position_in}
use Rattle.rescue.specs.Rescue.{positions, rising, in_order}
use Rattle.rescue.proofs.listed.in_order.Given as goal

abbrev pub invariant-loop-i : goal.invariant-loop-i
invariant-loop-i l =
    let ps = positions l.runs l.skips in
    (l.i ≤ length l.runs) × (in_order l.end.bytes ps ≡ rising l.end.bytes (position_in l.last) (drop l.i ps))
