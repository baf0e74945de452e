-- `put_rows` meets its contract. The loop's invariant: what stands so far, then the bytes of the rows that are left, is the whole.
-- Assumes nothing.
use mathlib.Core.List.{◌++◌}
use mathlib.Core.Path.{◌≡◌}
use Prim.Native.Nat.{◌≤◌, ◌-◌, ◌*◌}
use lib.ListN.{length, take, drop}
use Rattle.exports.specs.RowBytes.{row_bytes}
use Rattle.exports.proofs.bytes.put_rows.Given as goal

abbrev pub invariant-loop-i : goal.invariant-loop-i
invariant-loop-i l =
    (l.i ≤ l.fn.count.rows)
    × (length l.out ≡ length l.initial.out)
    × (take (8 * l.i) l.out ++ row_bytes (take (l.fn.count.rows - l.i) (drop l.i l.rows)) ≡ row_bytes (take l.fn.count.rows l.rows))
    × (drop (8 * l.i) l.out ≡ drop (8 * l.i) l.initial.out)
