-- The sum so far is where name i begins, and no sum passes the block. Assumes nothing.
use Prim.Native.Nat.{◌≤◌}
use mathlib.Core.Path.{◌≡◌}
use Rattle.labels.specs.Labels.{start_of}
use Rattle.labels.proofs.start_of.Given as goal

abbrev pub invariant-loop-length : goal.invariant-loop-length
invariant-loop-length l = (l.length-index ≤ l.k) × (l.sum ≡ start_of l.lengths l.length-index)
