-- Each turn converts one run more, or ends with what the definition says of the rest. Assumes nothing.
use Rattle.format.proofs.Common.{◌-◌, length}
use Rattle.convert.proofs.Walks.{Along}
use Rattle.convert.proofs.walk.Given as goal

abbrev pub invariant-loop-t : goal.invariant-loop-t
invariant-loop-t l = Along l.signed l.input l.room.bytes l.initial.out l.out l.p l.altered l.at

abbrev pub decreases-loop-t : goal.decreases-loop-t
decreases-loop-t l = length l.input - l.p
