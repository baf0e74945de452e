-- The machine reads the bits as the definition does. Assumes nothing.
use Rattle.format.proofs.Common.{◌∙◌, arith, to_z-of_z, sfits_of, w64}
use Rattle.format.proofs.Patterns.{as-to_z}
use Rattle.util.proofs.pattern.to_i64.Goals as goal

pub returns : goal.returns
returns c = to_z-of_z {w = w64} (sfits_of c.cast_signed.type_inv) ∙ c.cast_signed.ensures ∙ as-to_z c.args.bits (omega arith)
