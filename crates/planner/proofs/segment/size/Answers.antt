-- A form above 3 is measured by writing it in room for any run, another by `size_of_run`; a width above 255 has no size. Assumes nothing.
use native.Mathlib.Omega.{arith}
use Rattle.planner.specs.Check.{any_run, write_in}
use Rattle.planner.proofs.Steps.{size_none, none-wide, by_form}
use Rattle.planner.proofs.segment.size.Goals as goal

pub returns-then-s-gt3 : goal.returns-then-s-gt3
returns-then-s-gt3 c =
    rw c.requires at c.write.ensures.size

pub returns-then-s-lt256 : goal.returns-then-s-lt256
returns-then-s-lt256 c =
    let a = c.args in
    rw (by_form a.signed a.s.form a.s.width a.s.base a.part.now any_run (omega (arith, c.if-s-gt3.false)))
    (rw c.form_of.ensures at c.size_of_run.ensures)

pub returns : goal.returns
returns c =
    let a = c.args in
    size_none (write_in a.signed a.s.form a.s.width a.s.base a.part.now any_run)
    (none-wide a.signed a.s.form a.s.width a.s.base a.part.now any_run (omega (arith, c.if-s-lt256.false)))
