-- The position that was found has the same batches, so the call there answers for this one. Assumes nothing.
use native.Mathlib.Omega.{arith}
use Rattle.std.specs.Prelude.{Ok}
use Rattle.batches.specs.BatchSteps.{Finds}
use Rattle.batches.proofs.BatchAnswers.{some-given, answered-rows, answered-there}
use Rattle.batches.proofs.read_rows.Goals as goal

pub returns : goal.returns
returns c =
    let a = c.args in
    let finds : Finds a.input.now a.from (Ok c.in_ok-found.found) = rw c.in_ok-found.was at c.seek.ensures in
    let holds = finds.0 (omega arith) in
    answered-there finds.1
    (answered-rows a.input.now c.in_ok-found.found a.signed a.out.now c.read_within.ensures (some-given a.signed _ holds))
