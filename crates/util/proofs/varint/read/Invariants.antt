-- The loop's invariant: the groups before group k are in the bits, and the definition goes on from the next place. Assumes nothing.
use Rattle.format.proofs.Common.{◌≡◌, ◌-◌, ◌*◌, ◌^◌, drop}
use Rattle.format.specs.Parse.{cut_in, varint}
use Rattle.util.proofs.Varints.{told_from}
use Rattle.util.specs.Varint.{varint_at}
use Rattle.util.proofs.varint.read.Given as goal

abbrev pub invariant-loop-k : goal.invariant-loop-k
invariant-loop-k l = varint_at l.s l.at ≡ told_from l.next l.bits (2 ^ (7 * l.k)) (varint (cut_in 12 (drop l.at l.s)) (10 - l.k) (drop l.next l.s))
