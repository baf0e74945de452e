-- One run: its kind is counted once, and its extremes and its sum are those of its rows. Assumes nothing.
use Rattle.tally.proofs.Held.{kind-below, one-run}
use Rattle.tally.proofs.totals.Totals.of_run.Goals as goal

pub bounds-runs-number : goal.bounds-runs-number
bounds-runs-number c = rw c.number.ensures (kind-below c.args.kind)

pub returns : goal.returns
returns c =
    let a = c.args in
    rw (one-run a.kind a.rows.now, c.sum_of.ensures, c.number.ensures, c.range_of-range.ensures.0, c.range_of-range.ensures.1)
