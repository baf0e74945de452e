-- `run::before_at`: none of the first i bytes begins three equal ones, and the next two are at hand, so each turn asks for one byte.
-- Assumes nothing.
use Rattle.format.proofs.Common.{◌≡◌, ◌+◌, get_or}
use Rattle.byte_writer.specs.Flags.{source}
use Rattle.byte_writer.proofs.Stretches.{Unlike}
use Rattle.byte_writer.proofs.run.before_at.Given as goal

abbrev pub invariant-loop-i : goal.invariant-loop-i
invariant-loop-i l =
    (l.first ≡ get_or (source l.packed l.s) (l.at + l.i) 0)
    × (l.second ≡ get_or (source l.packed l.s) (l.at + l.i + 1) 0) × Unlike (source l.packed l.s) l.at l.i
