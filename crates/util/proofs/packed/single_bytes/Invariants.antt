-- The loop's invariant: fields before k are laid. Assumes nothing.
use Rattle.util.specs.Packed.{FieldsLaid}
use Rattle.util.proofs.packed.single_bytes.Given as goal

abbrev pub invariant-loop-k : goal.invariant-loop-k
invariant-loop-k l = FieldsLaid l.w l.n l.s l.k l.initial.out l.out
