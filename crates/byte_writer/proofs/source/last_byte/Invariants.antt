-- `source::last_byte`: each turn adds a flag at its weight, and past the last flag every bit is 0. Assumes nothing.
use Rattle.format.proofs.Common.{drop}
use Rattle.byte_writer.proofs.Packing.{Weighing}
use Rattle.byte_writer.proofs.source.last_byte.Given as goal

abbrev pub invariant-loop-flag : goal.invariant-loop-flag
invariant-loop-flag l = Weighing (drop l.at l.flags) l.flag-index l.byte l.weight
