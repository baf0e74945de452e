-- A group without bytes is kept if no rows are listed; any other if its measure answers with as many rows as are listed. Assumes nothing.
use mathlib.Core.Path.{sym, ◌∙◌}
use native.Mathlib.Omega.{arith}
use lib.ListN.{length}
use borrow.Author.Tests.{eqb-true}
use Rattle.format.proofs.Below.{below_all}
use Rattle.salvage.proofs.Keeping.{kept-empty, kept_whole, kept-refused}
use Rattle.salvage.proofs.groups.is_kept.Goals as goal

pub returns-in-Ok : goal.returns-in-Ok
returns-in-Ok c =
    let a = c.args in
    kept_whole a.rows.rows a.bytes.now (below_all 256 a.bytes.now (λ i. (c.shared_slice_known-1.given i).fits)) (omega arith) _
    (sym c.measure_stream.ensures ∙ c.in-Ok.is)

pub returns-in-Err : goal.returns-in-Err
returns-in-Err c =
    let a = c.args in
    kept-refused a.rows.rows a.bytes.now (below_all 256 a.bytes.now (λ i. (c.shared_slice_known-1.given i).fits)) (omega arith) _
    (sym c.measure_stream.ensures ∙ c.in-Err.is)

pub returns-then-is_empty : goal.returns-then-is_empty
returns-then-is_empty c = kept-empty _ _ (eqb-true (length c.args.bytes.now) 0 (sym c.is_empty.ensures ∙ c.if-is_empty.true))
