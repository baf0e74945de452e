-- Each answer is that of the law for the test that led there. Assumes nothing.
use Rattle.std.specs.Prelude.{Some, Ok}
use Rattle.std.specs.Prelude.{Err}
use mathlib.Core.Path.{ap}
use mathlib.Core.Path.{◌∙◌}
use Rattle.rle_v2.proofs.ShortRun.{no_body, run_is}
use Rattle.rle_v2.proofs.short_repeat.measure.Goals as goal

pub returns-then-input-body : goal.returns-then-input-body
returns-then-input-body c = ap Err c.cut.ensures ∙ no_body c.args.input.now c.args.at.bytes c.requires.0 c.if-input-body.true

pub returns : goal.returns
returns c = ap (λ r. Ok (Some r)) c.new.ensures ∙ run_is c.args.input.now c.args.at.bytes c.if-input-body.false
