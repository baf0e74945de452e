-- The part of the flags that is lent is the flags before the row. Assumes nothing.
use mathlib.Core.Path.{sym}
use lib.Seq.{length-take-le}
use Rattle.labels.specs.Labels.{entry_of}
use Rattle.labels.proofs.entry_of.Goals as goal

pub slice_bounds-count_present-end : goal.slice_bounds-count_present-end
slice_bounds-count_present-end c =
    sym (length-take-le c.args.row.rows c.args.flags.now c.requires)

pub returns : goal.returns
unfolding entry_of
returns c = c.count_present-named.ensures
