-- The rows passed, and the good ones of what is left, are always all. Assumes nothing.
use Prim.Native.Nat.{◌+◌, ◌≤◌}
use mathlib.Core.Path.{◌≡◌}
use lib.ListN.{length, drop}
use Rattle.labels.specs.Column.{good_rows}
use Rattle.labels.proofs.column.good_rows.Given as goal

abbrev pub invariant-loop-i : goal.invariant-loop-i
invariant-loop-i l =
    (l.i ≤ length l.flags) × (l.next ≤ l.i) × (l.i + good_rows l.lengths (drop l.i l.flags) (drop l.next l.numbers) ≡ good_rows l.lengths l.flags l.numbers)
