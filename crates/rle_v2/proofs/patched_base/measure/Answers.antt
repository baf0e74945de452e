-- The answer names what was found, where the list passes. Assumes nothing.
use Rattle.std.specs.Prelude.{Some, Ok}
use mathlib.Core.Path.{ap, ◌∙◌}
use Rattle.rle_v2.proofs.PatchedFound.{passed-answer, passes}
use Rattle.rle_v2.proofs.patched_base.measure.Goals as goal

pub returns : goal.returns
returns c =
    let a = c.args in
    let f = c.in_ok-f.ensures in
    (ap (λ r. Ok (Some r)) c.new.ensures) ∙ passed-answer a.input.now a.at.bytes _ _ _ _ (passes a.input.now a.at.bytes _ _ f.heads f.list)
