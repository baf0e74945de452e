-- The loop's invariant: eight fields are laid for each turn. Assumes nothing.
use Rattle.format.proofs.Common.{◌*◌}
use Rattle.util.specs.Packed.{FieldsLaid}
use Rattle.util.proofs.packed.eights.Given as goal

abbrev pub invariant-loop-turn : goal.invariant-loop-turn
invariant-loop-turn l = FieldsLaid l.w l.n l.s (8 * l.turn) l.initial.out l.out
