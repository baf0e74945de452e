-- The rows found, and those that the flags left stand for, are always all. Assumes nothing.
use Prim.Native.Nat.{◌+◌, ◌≤◌}
use mathlib.Core.Path.{◌≡◌}
use lib.ListN.{drop}
use Rattle.present.specs.Present.{present}
use Rattle.present.proofs.count_present.Given as goal

abbrev pub invariant-loop-flag : goal.invariant-loop-flag
invariant-loop-flag l = (l.found ≤ l.flag-index) × (l.found + present (drop l.flag-index l.flags) ≡ present l.flags)
