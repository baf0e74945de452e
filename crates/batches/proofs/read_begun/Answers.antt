-- If rows were read there is a batch; or else what stands at the byte says which answer it is. Assumes nothing.
use mathlib.Core.Path.{◌∙◌, ap}
use Rattle.std.specs.Prelude.{Ok}
use mathlib.Core.Path.{◌≡◌, subst}
use native.Mathlib.Omega.{arith}
use Rattle.format.specs.Answers.{Answer}
use Rattle.format.proofs.Below.{below_all}
use Rattle.batches.proofs.RunAtByte.{Step, step}
use Rattle.batches.proofs.BatchAnswers.{begun-some, begun-run, begun-refused, begun-ended}
use Rattle.batches.proofs.read_begun.Goals.{After-measure}
use Rattle.batches.proofs.read_begun.Goals as goal

at-byte : (c : After-measure) {a : Answer} → c.measure.result ≡ a → Step c.args.input.now c.args.at.bytes a
at-byte c e =
    let s = c.args.input.now in
    let At : Answer → Type 0 = Step s c.args.at.bytes in
    subst (At) e (step s c.args.at.bytes _ (below_all 256 s (λ i. (c.type_inv.input i).fits)) c.measure.ensures)

-- ---- the answers
pub returns-then-rows-gt0 : goal.returns-then-rows-gt0
returns-then-rows-gt0 c = begun-some c.read_runs-read.ensures (omega arith)

pub returns-in-Ok-Some : goal.returns-in-Ok-Some
returns-in-Ok-Some c =
    begun-run c.read_runs-read.ensures
    (at-byte (goal.at.returns-in-Ok-Some c).After-measure (c.in-Ok-Some.is ∙ ap Ok c.in-Ok-Some.field-0-is))

pub returns-in-Err : goal.returns-in-Err
returns-in-Err c =
    let none_read : c.read_runs-read.result.rows.rows ≡ 0 = omega arith in
    begun-refused c.read_runs-read.ensures (none_read) (at-byte (goal.at.returns-in-Err c).After-measure c.in-Err.is)

pub returns-in-Ok-None : goal.returns-in-Ok-None
returns-in-Ok-None c =
    let none_read : c.read_runs-read.result.rows.rows ≡ 0 = omega arith in
    begun-ended c.read_runs-read.ensures (none_read)
    (at-byte (goal.at.returns-in-Ok-None c).After-measure (c.in-Ok-None.is ∙ ap Ok c.in-Ok-None.field-0-is))
