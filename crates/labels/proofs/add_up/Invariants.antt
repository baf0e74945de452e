-- The lengths add up exactly if what is left of them does, with the sum so far. Assumes nothing.
use Prim.Native.Nat.{◌≤◌}
use mathlib.Core.Path.{◌≡◌}
use lib.ListN.{length, drop}
use Rattle.labels.specs.Labels.{add_up_to}
use Rattle.labels.proofs.Columns.{left_over}
use Rattle.labels.proofs.add_up.Given as goal

abbrev pub invariant-loop-length : goal.invariant-loop-length
invariant-loop-length l =
    (l.length-index ≤ length l.lengths) × (l.sum ≤ l.bytes) × (add_up_to l.lengths l.bytes ≡ left_over (drop l.length-index l.lengths) l.sum l.bytes)
