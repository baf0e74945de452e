use Rattle.std.proofs.Common.{◌+◌, ◌≤◌, length, ◌∙◌, arith}
use Rattle.blocks.proofs.Moves.{moved_front, unmoved, kept-count, kept-front}
use Rattle.blocks.proofs.keep.Goals as goal

pub returns : goal.returns
returns c =
    let a = c.args in
    let n = c.min-n.result in
    let h = c.requires in
    let l : a.from + n ≤ length a.input.now = omega arith in
    let e = c.copy_within.ensures.after in
    record {
      count = kept-count a.from a.end n a.input.now h.0 h.1 c.min-n.ensures;
      front = moved_front a.input.now _ a.from n l e ∙ kept-front a.from a.end n a.input.now h.0 h.1 c.min-n.ensures;
      rest = unmoved a.input.now _ a.from n l e;
    }
