-- `runs::answer_block` meets its contract, and each piece that it hands over is the definition's text of its lines. The loop's invariant: what stands
-- before `from` are whole lines. Assumes nothing.
use Rattle.std.proofs.Common.{◌≡◌, ◌-◌, ◌≤◌, [], length, take, drop}
use Rattle.blocks.specs.Blocks.{begun_from}
use Rattle.runs.specs.Program.{Pending}
use Rattle.runs.proofs.answer_block.Given as goal

abbrev pub invariant-loop-reads : goal.invariant-loop-reads
invariant-loop-reads g l =
    (l.from ≤ length l.input) × (length l.output ≡ length l.initial.output) × (begun_from [] (take l.from l.input) ≡ [])
    × Pending l.reads l.said (drop l.from l.input)

abbrev pub decreases-loop-reads : goal.decreases-loop-reads
decreases-loop-reads g l = length l.input - l.from
