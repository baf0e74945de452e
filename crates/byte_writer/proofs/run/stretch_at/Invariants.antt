-- `run::stretch_at`: the first i bytes are equal, so the stretch is i and the bytes equal to the first from there on. Assumes nothing.
use Rattle.format.proofs.Common.{◌≡◌, ◌+◌, drop}
use Rattle.byte_writer.specs.Choice.{same_as, stretch}
use Rattle.byte_writer.specs.Flags.{source}
use Rattle.byte_writer.proofs.run.stretch_at.Given as goal

abbrev pub invariant-loop-i : goal.invariant-loop-i
invariant-loop-i l =
    stretch (drop l.at (source l.packed l.s)) ≡ l.i + same_as l.first (drop (l.at + l.i) (source l.packed l.s))
