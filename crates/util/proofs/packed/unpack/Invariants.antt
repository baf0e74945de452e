-- The loop's invariant: fields before k are laid. Assumes nothing.
use Rattle.util.specs.Packed.{Lays}
use Rattle.util.proofs.packed.unpack.Given as goal

abbrev pub invariant-loop-k : goal.invariant-loop-k
invariant-loop-k l = Lays l.w l.s l.laid l.k l.initial.out l.out
