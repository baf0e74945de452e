-- The writer's promise, of the first n rows. Assumes nothing.
use Rattle.format.proofs.Common.{sym, length-take-le}
use Rattle.convert.proofs.turn.rewrite.Goals as goal

pub slice_bounds-write_run-end : goal.slice_bounds-write_run-end
slice_bounds-write_run-end c = sym (length-take-le c.args.count.rows c.args.rows.now c.requires)

pub returns : goal.returns
returns c = rw (c.next_kept.ensures, c.form_of.ensures) at
    c.write_run.ensures
