-- A number within the list finds its element, whatever the default; after the list the default is found. Assumes nothing.
use mathlib.Core.Path.{◌∙◌}
use lib.ListN.{get_or-eq_default}
use native.Mathlib.Omega.{arith}
use Rattle.rescue.proofs.ListedColumns.{default}
use Rattle.rescue.proofs.listed.position_at.Goals as goal

pub returns-then-i-runs : goal.returns-then-i-runs
returns-then-i-runs c =
    let a = c.args in
    c.row_position.ensures ∙ rw (default a.runs.now a.i 0 a.end.bytes (omega arith))

pub returns : goal.returns
returns c =
    let a = c.args in
    c.row_position-2.ensures
    ∙ rw (get_or-eq_default a.runs.now a.end.bytes {n = a.i} (omega arith))
    (rw (get_or-eq_default a.skips.now 0 {n = a.i} (omega arith)))
