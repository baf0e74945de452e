-- Three numbers are tested, and what is left is a packed delta. Assumes nothing.
use Rattle.planner.specs.Walk.{form_of}
use Rattle.planner.proofs.Steps.{form-packed}
use Rattle.planner.proofs.segment.form_of.Goals as goal

pub returns-then-form-eq0 : goal.returns-then-form-eq0
unfolding form_of
returns-then-form-eq0 c = rw c.if-form-eq0.true

pub returns-then-form-eq1 : goal.returns-then-form-eq1
unfolding form_of
returns-then-form-eq1 c = rw c.if-form-eq1.true

pub returns-then-form-eq2 : goal.returns-then-form-eq2
unfolding form_of
returns-then-form-eq2 c = rw c.if-form-eq2.true

pub returns : goal.returns
returns c = form-packed _ c.if-form-eq0.false c.if-form-eq1.false c.if-form-eq2.false
