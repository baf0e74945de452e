-- The loop's invariant: fields before k are laid, and `low` bits come after them. Assumes nothing.
use Rattle.format.proofs.Common.{◌≡◌, ◌+◌, ◌*◌, length}
use Rattle.util.specs.Packed.{FieldsLaid}
use Rattle.util.proofs.packed.few.Given as goal

abbrev pub invariant-loop-k : goal.invariant-loop-k
invariant-loop-k l = (l.low + l.k * l.w ≡ 8 * length l.s) × FieldsLaid l.w l.n l.s l.k l.initial.out l.out
