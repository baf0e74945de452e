-- A width that is not kept is refused; for a kept one there are places enough, a few for a short run and 512 for any. Assumes nothing.
use Rattle.format.proofs.Common.{◌≡◌, sym, ◌∙◌, true, to_z-of_z, rules}
use Rattle.format.specs.Kept.{is_kept_width}
use Rattle.writer.proofs.PatchedHeader.{bad-width}
use Rattle.format.proofs.Common.{w64}
use Rattle.writer.proofs.patched_base.write.Goals as goal

pub returns-then-not-is_kept : goal.returns-then-not-is_kept
returns-then-not-is_kept c =
    let a = c.args in
    bad-width a.rows.now a.base a.width a.out.now c.refused.result c.requires.0 c.requires.1
    (sym c.is_kept.ensures ∙ c.if-not-is_kept.true) c.refused.ensures

pub write_over-requires : goal.write_over-requires
write_over-requires c =
    let kept : is_kept_width c.args.width ≡ true = sym c.is_kept.ensures ∙ c.if-not-is_kept.false in
    record { in_bounds = search rules; width_value = kept }

pub returns-then-rows-le-FEW : goal.returns-then-rows-le-FEW
returns-then-rows-le-FEW c = rw (to_z-of_z {w = w64} c.ranges.base) at c.write_over.ensures

pub write_over-requires-2 : goal.write_over-requires-2
write_over-requires-2 c =
    let kept : is_kept_width c.args.width ≡ true = sym c.is_kept.ensures ∙ c.if-not-is_kept.false in
    record { in_bounds = search rules; width_value = kept }

pub returns : goal.returns
returns c = rw (to_z-of_z {w = w64} c.ranges.base) at c.write_over-2.ensures
