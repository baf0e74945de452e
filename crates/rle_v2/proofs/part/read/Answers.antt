-- Each answer is that of the law for the tests that led there; the fields that are laid are decoded into the run's rows. Assumes nothing.
use mathlib.Core.Path.{ap}
use Rattle.std.specs.Prelude.{None, Some, Ok}
use Prim.Native.Nat.{◌+◌, ◌-◌}
use mathlib.Core.Path.{◌≡◌, sym, ◌∙◌}
use native.Mathlib.Omega.{arith}
use lib.ListN.{length, length-drop}
use Rattle.format.specs.Promises.{answer_of}
use Rattle.format.proofs.Below.{below_all}
use Rattle.util.proofs.Grow.{rest-is}
use Rattle.rle_v2.proofs.Blocks.{code-width}
use Rattle.rle_v2.proofs.ByKind.{nothing-there, is-direct}
use Rattle.rle_v2.proofs.DirectRun.{run, Measured, measured, rows-there}
use Rattle.rle_v2.proofs.PartRun.{none-there, none_named, none-direct, part_none, part-read}
use Rattle.rle_v2.proofs.part.read.Goals as goal
use Rattle.rle_v2.proofs.part.read.Goals.{then-input-p-via-then-input-p, then-input-p-via-else-input-p+then-input-p-ne1}

-- ---- no rows
pub returns-then-input-p : goal.returns-then-input-p
returns-then-input-p c =
    let a = c.args in
    elim c.then-input-p.branch [
      | then-input-p-via-then-input-p w ↦ none-there a.skip.rows a.signed a.out.now _ (nothing-there a.input.now a.at.bytes w.if-input-p.true)
      | then-input-p-via-else-input-p+then-input-p-ne1 w ↦
          none-direct a.skip.rows a.signed a.out.now a.input.now a.at.bytes
          (below_all 256 a.input.now (λ i. (c.type_inv.input i).fits)) w.if-input-p.false w.if-input-p-ne1.true
    ]

pub returns-then-count-skip : goal.returns-then-count-skip
returns-then-count-skip c =
    let named : (let a = c.args in
    Ok (Some c.in-Ok-Some.r) ≡ answer_of a.at.bytes (length a.input.now - a.at.bytes) (run a.input.now a.at.bytes)) = sym (c.in-Ok-Some.is ∙ ap Ok c.in-Ok-Some.field-0-is) ∙ c.measure.ensures in
    let measured-is : (let a = c.args in Measured a.input.now a.at.bytes c.in-Ok-Some.r) = measured c.args.input.now c.args.at.bytes _ c.if-input-p.false (named) in
    let a = c.args in
    rw (is-direct a.input.now a.at.bytes c.if-input-p.false c.if-input-p-ne1.false)
    (part_none a.input.now a.at.bytes a.skip.rows a.signed a.out.now _ (named) (measured-is) (omega (arith, c.if-count-skip.true)))

pub returns-in-Err : goal.returns-in-Err
returns-in-Err c =
    let a = c.args in
    rw (is-direct a.input.now a.at.bytes c.if-input-p.false c.if-input-p-ne1.false)
    (none_named a.skip.rows a.signed a.out.now a.at.bytes _ _ _ (rw c.in-Err.is tt) c.measure.ensures)

pub returns-in-Ok-None : goal.returns-in-Ok-None
returns-in-Ok-None c =
    let a = c.args in
    rw (is-direct a.input.now a.at.bytes c.if-input-p.false c.if-input-p-ne1.false)
    (none_named a.skip.rows a.signed a.out.now a.at.bytes _ _ (Ok None) tt (rw (c.in-Ok-None.is ∙ ap Ok c.in-Ok-None.field-0-is) at c.measure.ensures))

-- ---- rows
pub slice_bounds-lay-count : goal.slice_bounds-lay-count
slice_bounds-lay-count c =
    let named : (let a = c.args in
    Ok (Some c.in-Ok-Some.r) ≡ answer_of a.at.bytes (length a.input.now - a.at.bytes) (run a.input.now a.at.bytes)) = sym (c.in-Ok-Some.is ∙ ap Ok c.in-Ok-Some.field-0-is) ∙ c.measure.ensures in
    let measured-is : (let a = c.args in Measured a.input.now a.at.bytes c.in-Ok-Some.r) = measured c.args.input.now c.args.at.bytes _ c.if-input-p.false (named) in
    let m = measured-is in omega (arith, m.head)

pub slice_bounds-lay-start : goal.slice_bounds-lay-start
slice_bounds-lay-start c =
    let named : (let a = c.args in
    Ok (Some c.in-Ok-Some.r) ≡ answer_of a.at.bytes (length a.input.now - a.at.bytes) (run a.input.now a.at.bytes)) = sym (c.in-Ok-Some.is ∙ ap Ok c.in-Ok-Some.field-0-is) ∙ c.measure.ensures in
    let measured-is : (let a = c.args in Measured a.input.now a.at.bytes c.in-Ok-Some.r) = measured c.args.input.now c.args.at.bytes _ c.if-input-p.false (named) in
    let m = measured-is in omega (arith, m.head)

pub lay-requires : goal.lay-requires
lay-requires c =
    let named : (let a = c.args in
    Ok (Some c.in-Ok-Some.r) ≡ answer_of a.at.bytes (length a.input.now - a.at.bytes) (run a.input.now a.at.bytes)) = sym (c.in-Ok-Some.is ∙ ap Ok c.in-Ok-Some.field-0-is) ∙ c.measure.ensures in
    let measured-is : (let a = c.args in Measured a.input.now a.at.bytes c.in-Ok-Some.r) = measured c.args.input.now c.args.at.bytes _ c.if-input-p.false (named) in
    let a = c.args in
    let m = measured-is in
    let s = a.input.now in
    record {
      width = rw m.width_is (code-width _);
      few = omega (arith, m.rows_are, c.type_inv.input (a.at.bytes + 1));
      within = omega (arith, c.min-n.ensures, c.if-count-skip.false);
      places = omega (arith, c.min-n.ensures);
      there = rw (rest-is s (a.at.bytes + 2), length-drop) (rows-there s a.at.bytes _ m);
    }

pub returns-else-count-skip : goal.returns-else-count-skip
returns-else-count-skip c =
    let named : (let a = c.args in
    Ok (Some c.in-Ok-Some.r) ≡ answer_of a.at.bytes (length a.input.now - a.at.bytes) (run a.input.now a.at.bytes)) = sym (c.in-Ok-Some.is ∙ ap Ok c.in-Ok-Some.field-0-is) ∙ c.measure.ensures in
    let measured-is : (let a = c.args in Measured a.input.now a.at.bytes c.in-Ok-Some.r) = measured c.args.input.now c.args.at.bytes _ c.if-input-p.false (named) in
    let a = c.args in
    let s = a.input.now in
    rw (is-direct s a.at.bytes c.if-input-p.false c.if-input-p-ne1.false)
    (part-read s a.at.bytes a.skip.rows a.signed a.out.now _ (named) (measured-is) c.min-n.result _ _
    (omega (arith, c.if-count-skip.false)) c.min-n.ensures (rw (rest-is s (a.at.bytes + 2)) at c.lay.ensures) c.decode.ensures)
