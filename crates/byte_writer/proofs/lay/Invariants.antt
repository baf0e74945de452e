-- `lay`: each turn lays one run after those before it, so what was laid and what is still to come is the whole. Assumes nothing.
use Rattle.format.proofs.Common.{◌-◌, length}
use Rattle.byte_writer.specs.Flags.{source}
use Rattle.byte_writer.proofs.Walking.{Laying}
use Rattle.byte_writer.proofs.lay.Given as goal

abbrev pub invariant-loop-at : goal.invariant-loop-at
invariant-loop-at l = Laying (source l.packed l.s) l.initial.out l.out l.at l.place

abbrev pub decreases-loop-at : goal.decreases-loop-at
decreases-loop-at l = length (source l.packed l.s) - l.at
