-- Rows that are not in equal steps have no size; others have that of the header and two varints. Assumes nothing.
use Rattle.format.proofs.Common.{arith}
use Rattle.writer.proofs.Sizes.{none}
use Rattle.writer.proofs.FixedForm.{Fixed, fixed-known, uneven, even}
use Rattle.writer.proofs.delta.size_fixed.Goals as goal

pub returns-then-not-are_steps : goal.returns-then-not-are_steps
returns-then-not-are_steps c =
    let known : Fixed c.args.rows.now c.args.signed c.args.code = fixed-known c.args.rows.now c.args.signed c.args.code (omega arith) (omega arith) (omega arith) in
    none _ _ _ _ (uneven (known) _ c.base_delta.ensures _ c.are_steps.ensures c.if-not-are_steps.true)

pub returns : goal.returns
returns c =
    let known : Fixed c.args.rows.now c.args.signed c.args.code = fixed-known c.args.rows.now c.args.signed c.args.code (omega arith) (omega arith) (omega arith) in
    (even (known) _ c.base_delta.ensures _ c.are_steps.ensures c.if-not-are_steps.false c.start_size.ensures, omega (arith, c.start_size.ensures.bytes))
