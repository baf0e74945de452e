-- A number fits exactly if nothing is left above its bits. Assumes nothing.
use Rattle.format.proofs.Common.{ap, ◌∙◌, ℕ, eqb}
use Rattle.writer.proofs.Laws.{shifted-out}
use Rattle.writer.proofs.values.fits.Goals as goal

pub returns : goal.returns
returns c = ap (λ (x : ℕ). eqb x 0) c.above.ensures ∙ shifted-out c.args.x c.args.bits
