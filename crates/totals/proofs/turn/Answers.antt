-- `turn` meets its contract, and hands on as many bytes as the system says that came. Assumes nothing.
use Rattle.std.proofs.Common.{sym, refl, length-take-le}
use Rattle.blocks.proofs.Turns.{stop-long, held-open}
use Rattle.totals.proofs.turn.Goals as goal

pub slice_bounds-take_came-end-2 : goal.slice_bounds-take_came-end-2
slice_bounds-take_came-end-2 g c = sym (length-take-le _ _ c.one_more-block.ensures.came.within)

pub take_came-taken-requires : goal.take_came-taken-requires
take_came-taken-requires g c =
    let b = c.one_more-block.ensures.came in
    (stop-long _ _ _ _ _ b, held-open _ _ _ _ _ b c.requires.0, c.requires.1)

pub returns : goal.returns
returns g c =
    let r = c.one_more-block in
    record { read = r.result; once = r.ensures; is = refl; after = c.take_came-taken.ensures }
