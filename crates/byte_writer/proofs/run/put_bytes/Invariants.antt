-- `run::put_bytes`: each turn copies one byte more, so after i turns the first i bytes are pasted in. Assumes nothing.
use Rattle.format.proofs.Common.{◌≡◌, length, drop, paste}
use Rattle.byte_writer.specs.Flags.{source}
use Rattle.byte_writer.proofs.run.put_bytes.Given as goal

abbrev pub invariant-loop-i : goal.invariant-loop-i
invariant-loop-i l = (length l.out ≡ length l.initial.out) × (l.out ≡ paste l.initial.out l.k (drop l.at (source l.packed l.s)) l.i)
