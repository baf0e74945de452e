-- The loop's invariant: the values so far are packed, with the last t bits at the top of x.
-- Assumes nothing.
use Rattle.util.proofs.Packing.{Holds}
use Rattle.util.proofs.packed.pack.Given as goal

abbrev pub invariant-loop-v : goal.invariant-loop-v
invariant-loop-v l = Holds l.w l.at l.v-items l.initial.out l.out l.x l.t l.b l.v-index
