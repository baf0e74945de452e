-- Each turn passes one byte that is no newline: the line ends where the one from i on does. Assumes nothing.
use Rattle.std.proofs.Common.{◌≡◌, ◌+◌, ◌≤◌, drop, length}
use Rattle.std.specs.Prelude.{max}
use Rattle.blocks.specs.Blocks.{line_length}
use Rattle.blocks.proofs.line_end.Given as goal

abbrev pub invariant-loop-i : goal.invariant-loop-i
invariant-loop-i l = (l.i ≤ max l.at (length l.input)) × (l.at + line_length (drop l.at l.input) ≡ l.i + line_length (drop l.i l.input))
