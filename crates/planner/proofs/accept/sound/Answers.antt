-- The check has accepted the first segments, and they are no longer than the direct runs; or none are proposed. Assumes nothing.
use mathlib.Core.Path.{sym, ◌∙◌}
use lib.Seq.{length-take-le}
use Rattle.planner.specs.Walk.{columns}
use Rattle.planner.specs.Plan.{dropped, kept}
use Rattle.planner.proofs.Proposing.{first-equal, proposes}
use Rattle.planner.proofs.accept.sound.Goals as goal

pub slice_bounds-part-end : goal.slice_bounds-part-end
slice_bounds-part-end c =
    sym (length-take-le c.args.k c.args.p.first.now c.requires.in-first)

pub slice_bounds-part-end-2 : goal.slice_bounds-part-end-2
slice_bounds-part-end-2 c =
    sym (length-take-le c.args.k c.args.p.counts.now c.requires.in-counts)

pub slice_bounds-part-end-3 : goal.slice_bounds-part-end-3
slice_bounds-part-end-3 c =
    sym (length-take-le c.args.k c.args.p.forms.now c.requires.in-forms)

pub slice_bounds-part-end-4 : goal.slice_bounds-part-end-4
slice_bounds-part-end-4 c =
    sym (length-take-le c.args.k c.args.p.widths.now c.requires.in-widths)

pub slice_bounds-part-end-5 : goal.slice_bounds-part-end-5
slice_bounds-part-end-5 c =
    sym (length-take-le c.args.k c.args.p.bases.now c.requires.in-bases)

pub walk-c-requires : goal.walk-c-requires
walk-c-requires c =
    let a = c.args in
    first-equal a.signed a.rows.now
    (columns a.p) a.k c.requires

pub returns-else-is_longer : goal.returns-else-is_longer
returns-else-is_longer c =
    let a = c.args in
    kept (proposes a.signed a.rows.now
    (columns a.p) a.k c.requires
    c.in-Some.t 18446744073709551615 c.in-Some.ensures (sym c.is_longer.ensures ∙ c.if-is_longer.false))

pub returns-then-is_longer : goal.returns-then-is_longer
returns-then-is_longer c = dropped

pub returns-in-None : goal.returns-in-None
returns-in-None c = dropped
