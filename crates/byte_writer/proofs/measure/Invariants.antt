-- `measure`: each turn counts one run, so the bytes of the runs so far and of those to come are all. Assumes nothing.
use Rattle.format.proofs.Common.{◌≡◌, ◌+◌, ◌-◌, ◌≤◌, length, drop}
use Rattle.byte_writer.specs.Choice.{written}
use Rattle.byte_writer.specs.Flags.{source}
use Rattle.byte_writer.proofs.measure.Given as goal

abbrev pub invariant-loop-at : goal.invariant-loop-at
invariant-loop-at l =
    (l.at ≤ length (source l.packed l.s)) × (l.size + length (written (drop l.at (source l.packed l.s))) ≡ length (written (source l.packed l.s)))

abbrev pub decreases-loop-at : goal.decreases-loop-at
decreases-loop-at l = length (source l.packed l.s) - l.at
