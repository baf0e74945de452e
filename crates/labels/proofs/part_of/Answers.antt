-- A name lies in the block, since the lengths add up to it. Assumes nothing.
use native.Mathlib.Omega.{arith}
use lib.ListN.{length}
use Prim.Native.Nat.{◌+◌, ◌≤◌}
use mathlib.Core.Path.{sym, ap, ◌∙◌}
use native.Mathlib.Nat.{add-sub_cancel_left}
use Rattle.labels.specs.Labels.{part_of}
use Rattle.labels.proofs.Columns.{name-inside}
use Rattle.labels.proofs.part_of.Goals as goal

pub overflow_add-to : goal.overflow_add-to
overflow_add-to c =
    let inside-block : c.in-Ok-Name.name.start.bytes + c.in-Ok-Name.name.size.bytes ≤ length c.args.block.now = name-inside _ _ _ _ _ _ _ (rw c.in-Ok-Name.field-0-is at (sym c.label_of.ensures.answer ∙ c.in-Ok-Name.is)) in
    omega (arith, inside-block)

pub slice_bounds-result-end : goal.slice_bounds-result-end
slice_bounds-result-end c =
    let inside-block : c.in-Ok-Name.name.start.bytes + c.in-Ok-Name.name.size.bytes ≤ length c.args.block.now = name-inside _ _ _ _ _ _ _ (rw c.in-Ok-Name.field-0-is at (sym c.label_of.ensures.answer ∙ c.in-Ok-Name.is)) in
    omega (arith, inside-block)

pub returns-in-Ok-Name : goal.returns-in-Ok-Name
returns-in-Ok-Name c =
    record {
      part-is = rw (add-sub_cancel_left)
          (sym (ap (part_of _ _) (rw c.in-Ok-Name.field-0-is at (sym c.label_of.ensures.answer ∙ c.in-Ok-Name.is))));
    }

pub returns-in-Ok-Fallback : goal.returns-in-Ok-Fallback
returns-in-Ok-Fallback c = record { part-is = sym (ap (part_of _ _) (rw c.in-Ok-Fallback.field-0-is at (sym c.label_of.ensures.answer ∙ c.in-Ok-Fallback.is))) }

pub returns-in-Err : goal.returns-in-Err
returns-in-Err c =
    record { part-is = sym (ap (part_of _ _) (sym c.label_of.ensures.answer ∙ c.in-Err.is)) }
