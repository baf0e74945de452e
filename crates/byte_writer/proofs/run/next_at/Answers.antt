-- `run::next_at`: 133 equal bytes are begun as more are, so counting up to them tells the first repeat. Assumes nothing.
use Rattle.format.proofs.Common.{◌<◌, min, arith, length, drop, length-drop, length-take-le}
use Rattle.byte_writer.specs.Choice.{stretch, in_literals}
use Rattle.byte_writer.specs.Flags.{source}
use Rattle.byte_writer.proofs.Cuts.{repeated-min, literals-le}
use Rattle.byte_writer.proofs.Walking.{next-repeat, next-literals}
use Rattle.byte_writer.proofs.run.next_at.Goals as goal

pub returns-then-count-ge3 : goal.returns-then-count-ge3
returns-then-count-ge3 c =
    let a = c.args in
    let bs = drop a.at (source a.packed a.s.now) in
    rw (next-repeat bs (omega arith), c.first_repeat.ensures, c.stretch_at-count.ensures, repeated-min (stretch bs))

pub returns : goal.returns
returns c =
    let a = c.args in
    let bs = drop a.at (source a.packed a.s.now) in
    let l : 0 < length bs = rw length-drop (omega arith) in
    let n = length-take-le (min 128 (in_literals bs)) bs (omega (arith, literals-le bs)) in
    rw (next-literals bs l (omega arith), n, c.literals_at.ensures)
